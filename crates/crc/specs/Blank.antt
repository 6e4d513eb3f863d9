-- A list with a field of it counted as zero, as a check value is taken that itself stands in the list.
-- Assumes nothing.
use Rattle.std.specs.Prelude.{List, ◌++◌, map, ℕ, ◌+◌, take, drop}

-- s with the n bytes from `at` on counted as zero; a list that ends sooner stays as long as it is
abbrev pub blank : ℕ → ℕ → List ℕ → List ℕ
blank at n s = take at s ++ (map (λ b. 0) (take n (drop at s)) ++ drop (at + n) s)
