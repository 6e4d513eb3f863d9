-- The list as a loop fills it, from the front: where item i starts, its entry, and that as many entries as the answer says are the list. Assumes nothing.
use Rattle.std.specs.Prelude.{ℕ, ◌≤◌, Bool, true, false, cond, List, ◌++◌, ◌≡◌, refl, leb, length, drop, Ok, Err}
use Rattle.std.proofs.Common.{sym, ap, arith, leb-true}
use Rattle.chain.specs.Fill.{filled}
use Rattle.chain.specs.Onward.{along}
use Rattle.chain.proofs.laws.Fill.{fill-start}
use Rattle.chain.proofs.laws.Onward.{tab-along}
use Rattle.kinds.specs.declared.Kinds.{Kinds}
use Rattle.reader.specs.Answers.{refused_with, list_answer, entry_count, list_holds, list_of}
use Rattle.reader.specs.Entries.{entry_at, entries}
use Rattle.reader.specs.Formats.{judged, start, end, next}
use Rattle.reader.specs.declared.Entry.{Entry}
use Rattle.reader.specs.declared.Format.{Format}
use Rattle.reader.proofs.laws.Formats.{places-grow, accepted-count}
use Rattle.verdict.specs.Answers.{Judged}

-- where item i starts, or the end of the items where there is none; and what is stored for it
abbrev pub place_of : Format → List ℕ → ℕ → ℕ
place_of f s i = along (next f s) (end f s) (start f) i

abbrev pub entry_of : Format → Kinds → List ℕ → ℕ → Entry
entry_of f k s i = entry_at f k s (place_of f s i)

-- the places, from the first item on
pub place-first : (f : Format) (s : List ℕ) → start f ≡ place_of f s 0
unfolding along
place-first f s = refl

-- no more entries are filled than there is room for
pub count-room : (room : ℕ) (j : Judged) → entry_count (list_answer room j) ≤ room
count-room room (Ok count) = go (leb count room) refl
  where
    go : (b : Bool) → leb count room ≡ b → entry_count (cond b (Ok count) (Err (refused_with 43))) ≤ room
    go true e = leb-true count room e
    go false e = omega arith
count-room room (Err r) = omega arith

-- as many entries as the answer says, and the rest of the lent list
holds :
    (f : Format) (k : Kinds) (s : List ℕ) (lent : List Entry) (j : Judged) →
    judged f k s ≡ j →
    filled (entry_of f k s) (entry_count (list_answer (length lent) j)) lent ≡ list_holds (entries f k s) lent (list_answer (length lent) j)
unfolding filled
holds f k s lent (Ok count) e = go (leb count (length lent))
  where
    go :
        (b : Bool) →
        filled (entry_of f k s) (entry_count (cond b (Ok count) (Err (refused_with 43)))) lent
        ≡ list_holds (entries f k s) lent (cond b (Ok count) (Err (refused_with 43)))
    go true =
        ap (λ (l : List Entry). l ++ drop count lent)
        (tab-along (next f s) (end f s) (places-grow f s) (entry_at f k s) count (start f) (accepted-count f k s count e))
    go false = sym (fill-start (entry_of f k s) lent)
holds f k s lent (Err r) e = sym (fill-start (entry_of f k s) lent)

-- so the answer, and the lent list when as many entries are stored, are what is answered
pub list-filled :
    (f : Format) (k : Kinds) (s : List ℕ) (lent : List Entry) →
    (list_answer (length lent) (judged f k s), filled (entry_of f k s) (entry_count (list_answer (length lent) (judged f k s))) lent) ≡ list_of f k s lent
unfolding list_of
list-filled f k s lent = ap (λ (l : List Entry). (list_answer (length lent) (judged f k s), l)) (holds f k s lent (judged f k s) refl)
