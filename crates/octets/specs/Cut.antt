-- Items that lie end to end, as the bytes of each one. `size s p` is how many bytes the item at place p has, read from the item itself.
-- Assumes nothing.
use Rattle.std.specs.Prelude.{ℕ, ◌+◌, List, map, ◌≡◌, length}
use Rattle.chain.specs.Chain.{chain}
use Rattle.octets.specs.Bytes.{run}

-- the items from place p up to `end`, each as its bytes
abbrev pub cut : (List ℕ → ℕ → ℕ) → List ℕ → ℕ → ℕ → List (List ℕ)
cut size s end p = map (λ q. run s q (size s q)) (chain (λ q. q + size s q) end p)

-- these bytes are one item: as many as its size says
abbrev pub Whole : (List ℕ → ℕ → ℕ) → List ℕ → Type 0
Whole size x = size x 0 ≡ length x
