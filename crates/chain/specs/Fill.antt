-- A buffer that is filled from the front: f 0 to f (n - 1), and then what the buffer held. Elements are of any type. Assumes nothing.
use Rattle.std.specs.Prelude.{ℕ, zero, suc, List, [], ◌∷◌, ◌++◌, drop}

module _ {A : Type 0} where
  -- f 0 to f (n - 1)
  unfoldable pub tab : (ℕ → A) → ℕ → List A
  tab f zero = []
  tab f (suc n) = tab f n ++ (f n ∷ [])

  unfoldable pub filled : (ℕ → A) → ℕ → List A → List A
  filled f n buffer = tab f n ++ drop n buffer
