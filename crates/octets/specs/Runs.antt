-- Runs of bytes: sixteen of a label, runs beside each other, and zeros. Assumes nothing.
use Rattle.std.specs.Prelude.{ℕ, ◌+◌, Bool, true, false, not, List, eqb, Some, None}
use Rattle.chain.specs.Chain.{range}
use Rattle.chain.specs.First.{first, when}
use Rattle.chain.specs.Found.{Found}
use Rattle.octets.specs.Bytes.{byte, run}

-- the sixteen bytes of a label or a name; an array of sixteen has no others
abbrev pub sixteen : List ℕ → List ℕ
sixteen l = run l 0 16

-- whether two runs differ at offset i: a's from p on, and b's from q on
abbrev pub apart : List ℕ → ℕ → List ℕ → ℕ → ℕ → Bool
apart a p b q i = not (eqb (byte a (p + i)) (byte b (q + i)))

-- the first of n offsets at which they differ
unfoldable pub difference : List ℕ → ℕ → List ℕ → ℕ → ℕ → Found
difference a p b q n = first (λ i. when (apart a p b q i) i) (range 0 n)

-- whether two runs of n bytes are equal: there is no such offset
abbrev pub is_nothing : Found → Bool
is_nothing (Some i) = false
is_nothing None = true

unfoldable pub same_run : List ℕ → ℕ → List ℕ → ℕ → ℕ → Bool
same_run a p b q n = is_nothing (difference a p b q n)

-- whether the byte at offset i from p is not zero
abbrev pub is_set : List ℕ → ℕ → ℕ → Bool
is_set s p i = not (eqb (byte s (p + i)) 0)

-- the place of the first such byte, of the offsets from `from` up to `to`
unfoldable pub nonzero : List ℕ → ℕ → ℕ → ℕ → Found
nonzero s p from to = first (λ i. when (is_set s p i) (p + i)) (range from to)
