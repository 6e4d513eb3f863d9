-- Going along a chain one item at a time: where it goes on from a place, and where it stands after a number of items. Assumes nothing.
use Rattle.std.specs.Prelude.{ℕ, zero, suc, min, cond, ltb}

-- on from p: where the next item starts, or `end` where none does; from `end` on it stays
unfoldable pub onward : (ℕ → ℕ) → ℕ → ℕ → ℕ
onward next end p = cond (ltb p end) (min (next p) end) p

-- the place after n items
unfoldable pub along : (ℕ → ℕ) → ℕ → ℕ → ℕ → ℕ
along next end p zero = p
along next end p (suc n) = onward next end (along next end p n)
