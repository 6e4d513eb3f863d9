-- What the definitions give on small examples, by computation. Assumes nothing.
use Rattle.std.specs.Prelude.{◌+◌, [], ◌∷◌, ◌≡◌, refl, leb, Some, None}
use Rattle.chain.specs.Chain.{visit, chain, ahead, range}
use Rattle.chain.specs.Fill.{tab, filled}
use Rattle.chain.specs.First.{when, first}
use Rattle.chain.specs.Keep.{keep, only}
use Rattle.chain.specs.Nth.{nth}
use Rattle.chain.specs.Number.{number_from, number_of}

-- items of two bytes from place 1 on: the last one may pass the end, and none starts there
two-bytes : chain (ahead 2) 6 1 ≡ 1 ∷ 3 ∷ 5 ∷ []
unfolding visit chain
two-bytes = refl

up-to-the-end : chain (ahead 2) 5 1 ≡ 1 ∷ 3 ∷ []
unfolding visit chain
up-to-the-end = refl

numbers : range 2 5 ≡ 2 ∷ 3 ∷ 4 ∷ []
unfolding visit chain
numbers = refl

first-of-three : first (λ p. when (leb 4 p) (p + 10)) (range 2 7) ≡ Some 14
unfolding visit chain first
first-of-three = refl

none-at-all : first (λ p. when (leb 9 p) p) (range 2 7) ≡ None
unfolding visit chain first
none-at-all = refl

third : nth (range 2 5) 2 ≡ Some 4
unfolding visit chain nth
third = refl

past-the-last : nth (range 2 5) 3 ≡ None
unfolding visit chain nth
past-the-last = refl

-- the number of the first that passes, counted from 0
second-passes : number_of (leb 3) (range 2 7) ≡ Some 1
unfolding visit chain number_from
second-passes = refl

none-passes : number_of (leb 9) (range 2 7) ≡ None
unfolding visit chain number_from
none-passes = refl

kept : keep (leb 4) (range 2 7) ≡ 4 ∷ 5 ∷ 6 ∷ []
unfolding visit chain keep
kept = refl

-- one place passes, two do, none does
only-place : only (keep (leb 6) (range 2 7)) ≡ Some 6
unfolding visit chain keep only
only-place = refl

two-places : only (keep (leb 5) (range 2 7)) ≡ None
unfolding visit chain keep only
two-places = refl

no-place : only (keep (leb 9) (range 2 7)) ≡ None
unfolding visit chain keep only
no-place = refl

front : filled (λ i. i + 7) 2 (1 ∷ 2 ∷ 3 ∷ 4 ∷ []) ≡ 7 ∷ 8 ∷ 3 ∷ 4 ∷ []
unfolding tab filled
front = refl
