-- The number of the first place of a list that passes a test, counted from 0. Assumes nothing.
use Rattle.std.specs.Prelude.{ℕ, ◌+◌, Bool, cond, List, [], ◌∷◌, Some, None}
use Rattle.chain.specs.Found.{Found}

-- counted from n
unfoldable pub number_from : ℕ → (ℕ → Bool) → List ℕ → Found
number_from n test [] = None
number_from n test (x ∷ xs) = let rest = number_from (n + 1) test xs in cond (test x) (Some n) rest

-- counted from 0
abbrev pub number_of : (ℕ → Bool) → List ℕ → Found
number_of test l = number_from 0 test l
