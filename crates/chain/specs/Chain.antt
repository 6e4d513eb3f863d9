-- A chain of items that lie end to end: the item at place p ends, and the next one starts, at `next p`.
-- The bytes of a range and records of one size are chains as well. Assumes nothing.
use Rattle.std.specs.Prelude.{ℕ, zero, suc, ◌+◌, cond, List, [], ◌∷◌, ltb}

-- the first places of the chain from p on, at most `fuel` of them, each below `end`
unfoldable pub visit : (ℕ → ℕ) → ℕ → ℕ → ℕ → List ℕ
visit next end zero p = []
visit next end (suc fuel) p = let more = p ∷ visit next end fuel (next p) in cond (ltb p end) more []

-- the places of the items from p up to `end`. Each place is above the one before it, so there are at most `end` of them
unfoldable pub chain : (ℕ → ℕ) → ℕ → ℕ → List ℕ
chain next end p = visit next end end p

-- an item of n bytes
abbrev pub ahead : ℕ → ℕ → ℕ
ahead n p = p + n

-- the places from a up to b, b itself left out
abbrev pub range : ℕ → ℕ → List ℕ
range a b = chain (ahead 1) b a
