-- What a reader answers for an item by number, for a string by number, and for the name; of the name also what the lent buffer then holds.
-- The order everywhere: the image's own refusal, then 42, 44, 43. Assumes nothing.
use Rattle.std.specs.Prelude.{ℕ, Bool, cond, List, ◌++◌, leb, length, drop, Some, None, Ok, Err}
use Rattle.chain.specs.Keep.{keep, only}
use Rattle.chain.specs.Nth.{nth}
use Rattle.chain.specs.Found.{Found}
use Rattle.kinds.specs.Kinds.{listed}
use Rattle.kinds.specs.declared.Kind.TheVariants.{Tag}
use Rattle.kinds.specs.declared.Kinds.{Kinds}
use Rattle.tiny_layout.specs.Layout.{items}
use Rattle.tiny_layout.specs.Pool.{is_of, pool}
use Rattle.tiny_layout.specs.Strings.{strings, span_at, text_of}
use Rattle.tiny_layout.specs.declared.Pool.{Pool}
use Rattle.tiny_layout.specs.Reference.{Reference}
use Rattle.tiny_rules.specs.Judged.{judged}
use Rattle.tiny.specs.Items.{item_at}
use Rattle.tiny.specs.declared.Item.{Item}
use Rattle.tiny.specs.AnswerTypes.{ItemAnswer, NameAnswer, StringAnswer}
use Rattle.verdict.specs.Answers.{Judged}
use Rattle.verdict.specs.declared.Refusal.{Refusal}

-- 42, 43 and 44 have the place 0
abbrev pub refused_with : ℕ → Refusal
refused_with n = record { number = n; place = 0 }

-- ---- item by number: 42 where the number is not below the count
abbrev pub numbered : Kinds → List ℕ → Found → ItemAnswer
numbered k s (Some p) = Ok (item_at k s (pool k s) p)
numbered k s None = Err (refused_with 42)

abbrev pub item_if : Kinds → List ℕ → ℕ → Judged → ItemAnswer
item_if k s n (Ok count) = numbered k s (nth (items s) n)
item_if k s n (Err r) = Err r

unfoldable pub item_numbered : Kinds → List ℕ → ℕ → ItemAnswer
item_numbered k s n = item_if k s n (judged k s)

-- ---- string by number: 42 where the listed pool has none of that number
abbrev pub looked : List ℕ → Pool → Found → StringAnswer
looked s pool (Some p) = Ok (Some (span_at s pool.to p))
looked s pool None = Err (refused_with 42)

-- "a string looked up by any number, is undecodable exactly when 01 is not on the list"
abbrev pub string_if : Kinds → List ℕ → ℕ → Judged → StringAnswer
string_if k s n (Ok count) = cond (listed k (Tag 0x01)) (looked s (pool k s) (nth (strings s (pool k s)) n)) (Ok None)
string_if k s n (Err r) = Err r

unfoldable pub string_numbered : Kinds → List ℕ → ℕ → StringAnswer
string_numbered k s n = string_if k s n (judged k s)

-- ---- the name: what is answered, and what the lent buffer then holds
-- whether the item at p is of tag 10, and known
abbrev pub is_serial : Kinds → List ℕ → ℕ → Bool
is_serial k s p = is_of k s 0x10 p

-- the places of these items
abbrev pub serials : Kinds → List ℕ → List ℕ
serials k s = keep (is_serial k s) (items s)

-- the reference of a serial; no other item has one that counts
abbrev pub serial_of : Item → Reference
serial_of (Item.Pool x) = None
serial_of (Item.Serial r) = r
serial_of (Item.Flags b) = None
serial_of (Item.Address x) = None
serial_of (Item.Identity x) = None
serial_of (Item.Batched x) = None
serial_of Item.NotKnown = None

-- the text at the front and the rest unchanged; 43 where the buffer is too short; 44 where the reference is undecodable
abbrev pub copied : List ℕ → List ℕ → Reference → NameAnswer × List ℕ
copied s buffer (Some span) =
    cond (leb span.length (length buffer)) (Ok span.length, text_of s span ++ drop span.length buffer)
    (Err (refused_with 43), buffer)
copied s buffer None = (Err (refused_with 44), buffer)

-- 44 where there is not exactly one such item
abbrev pub name_at : Kinds → List ℕ → List ℕ → Found → NameAnswer × List ℕ
name_at k s buffer (Some p) = copied s buffer (serial_of (item_at k s (pool k s) p).item)
name_at k s buffer None = (Err (refused_with 44), buffer)

-- of an accepted image
abbrev pub name_in : Kinds → List ℕ → List ℕ → NameAnswer × List ℕ
name_in k s buffer = name_at k s buffer (only (serials k s))

abbrev pub name_if : Kinds → List ℕ → List ℕ → Judged → NameAnswer × List ℕ
name_if k s buffer (Ok count) = name_in k s buffer
name_if k s buffer (Err r) = (Err r, buffer)

unfoldable pub name_of : Kinds → List ℕ → List ℕ → NameAnswer × List ℕ
name_of k s buffer = name_if k s buffer (judged k s)
