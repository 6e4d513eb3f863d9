-- What a reader answers for an item by number and for the list; of the list also what it then holds. The image's own refusal comes first, then 42 or 43.
-- Assumes nothing.
use Rattle.std.specs.Prelude.{ℕ, cond, List, ◌++◌, leb, length, drop, Some, None, Ok, Err}
use Rattle.chain.specs.Nth.{nth}
use Rattle.chain.specs.Found.{Found}
use Rattle.kinds.specs.declared.Kinds.{Kinds}
use Rattle.reader.specs.Entries.{entries}
use Rattle.reader.specs.Formats.{judged, places}
use Rattle.reader.specs.Items.{pool_of, item_at}
use Rattle.reader.specs.declared.Entry.{Entry}
use Rattle.reader.specs.declared.Format.{Format}
use Rattle.reader.specs.AnswerTypes.{ItemAnswer, ListAnswer}
use Rattle.verdict.specs.Answers.{Judged}
use Rattle.verdict.specs.declared.Refusal.{Refusal}

-- 42 and 43 have the place 0
abbrev pub refused_with : ℕ → Refusal
refused_with n = record { number = n; place = 0 }

-- ---- item by number: 42 where the number is not below the count
abbrev pub numbered : Format → Kinds → List ℕ → Found → ItemAnswer
numbered f k s (Some p) = Ok (item_at f k s (pool_of f k s) p)
numbered f k s None = Err (refused_with 42)

abbrev pub item_if : Format → Kinds → List ℕ → ℕ → Judged → ItemAnswer
item_if f k s n (Ok count) = numbered f k s (nth (places f s) n)
item_if f k s n (Err r) = Err r

unfoldable pub item_numbered : Format → Kinds → List ℕ → ℕ → ItemAnswer
item_numbered f k s n = item_if f k s n (judged f k s)

-- ---- the list
-- what is answered for a lent list of this many entries: 43 where it is too short
abbrev pub list_answer : ℕ → Judged → ListAnswer
list_answer room (Ok count) = cond (leb count room) (Ok count) (Err (refused_with 43))
list_answer room (Err r) = Err r

-- how many entries are filled
abbrev pub entry_count : ListAnswer → ℕ
entry_count (Ok count) = count
entry_count (Err r) = 0

-- what the lent list then holds: the entries and the rest unchanged; a refused call changes nothing
abbrev pub list_holds : List Entry → List Entry → ListAnswer → List Entry
list_holds filled lent (Ok count) = filled ++ drop count lent
list_holds filled lent (Err r) = lent

abbrev pub list_if : Format → Kinds → List ℕ → List Entry → Judged → ListAnswer × List Entry
list_if f k s lent j = (list_answer (length lent) j, list_holds (entries f k s) lent (list_answer (length lent) j))

unfoldable pub list_of : Format → Kinds → List ℕ → List Entry → ListAnswer × List Entry
list_of f k s lent = list_if f k s lent (judged f k s)
