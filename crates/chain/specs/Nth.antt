-- The place at a number, counted from 0, of a list of places. Assumes nothing.
use Rattle.std.specs.Prelude.{ℕ, zero, suc, List, [], ◌∷◌, Some, None}
use Rattle.chain.specs.Found.{Found}

unfoldable pub nth : List ℕ → ℕ → Found
nth [] n = None
nth (x ∷ xs) zero = Some x
nth (x ∷ xs) (suc n) = nth xs n
