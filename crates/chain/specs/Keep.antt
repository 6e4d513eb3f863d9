-- The elements of a list that pass a test, and the place of a list of places that has exactly one. Assumes nothing.
use Rattle.std.specs.Prelude.{ℕ, Bool, cond, List, [], ◌∷◌, Some, None}
use Rattle.chain.specs.Found.{Found}

module _ {A : Type 0} where
  -- the elements that pass the test, in their order
  unfoldable pub keep : (A → Bool) → List A → List A
  keep test [] = []
  keep test (x ∷ xs) = let rest = keep test xs in cond (test x) (x ∷ rest) rest

-- the place of a list that has exactly one; nothing where it has none, or more
unfoldable pub only : List ℕ → Found
only [] = None
only (x ∷ []) = Some x
only (x ∷ (y ∷ ys)) = None
