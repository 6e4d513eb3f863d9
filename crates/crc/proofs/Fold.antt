-- A fold over the first i elements of a list: one element more.
-- Assumes nothing.
use mathlib.Core.Path.{◌≡◌, ap, ◌∙◌}
use mathlib.Core.List.{List, [], ◌∷◌, foldl, foldl-append}
use Prim.Native.Nat.{ℕ, ◌+◌, ◌<◌}
use native.Mathlib.Numerals.{add-one}
use lib.ListN.{length, get_or, take}
use lib.Seq.{take-suc}

pub fold-one : (f : ℕ → ℕ → ℕ) (a : ℕ) (s : List ℕ) (i : ℕ) → i < length s → foldl f a (take (i + 1) s) ≡ f (foldl f a (take i s)) (get_or s i 0)
fold-one f a s i h =
    ap (foldl f a) (ap (λ (n : ℕ). take n s) (add-one i) ∙ take-suc s i 0 h) ∙ foldl-append f a (take i s) (get_or s i 0 ∷ [])
