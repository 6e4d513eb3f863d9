-- What the judge says, as a verdict: a count is said of accepted images and of no others, a refusal of refused ones. Assumes nothing.
use Rattle.std.specs.Prelude.{Ok, Err}
use Prim.Native.Nat.{ℕ}
use mathlib.Core.List.{List}
use mathlib.Core.Path.{◌≡◌, ap, ap₂}
use Rattle.kinds.specs.declared.Kinds.{Kinds}
use Rattle.promises.specs.Answers.{answers}
use Rattle.reader.specs.Formats.{judged}
use Rattle.reader.specs.declared.Format.{Format}
use Rattle.verdict.specs.Said.{says, refused, judged_said}
use Rattle.verdict.specs.Verdict.{refusal}
use Rattle.verdict.specs.Answers.{Judged}

module _ (f : Format) (k : Kinds) (s : List ℕ) where
  pub accepted-by : (n : ℕ) → (answers f k s).judge ≡ says n → judged f k s ≡ Ok n
  unfolding answers
  accepted-by n e = go (judged f k s) e
    where
      go : (j : Judged) → judged_said j ≡ says n → j ≡ Ok n
      go (Ok m) d = let z : m ≡ n = cc in ap Ok z
      go (Err r) d = cc

  pub says-count : (n : ℕ) → judged f k s ≡ Ok n → (answers f k s).judge ≡ says n
  unfolding answers
  says-count n e = ap judged_said e

  pub says-refused : (n p : ℕ) → judged f k s ≡ refusal n p → (answers f k s).judge ≡ refused n p
  unfolding answers
  says-refused n p e = ap judged_said e

  pub refused-by : (n p : ℕ) → (answers f k s).judge ≡ refused n p → judged f k s ≡ refusal n p
  unfolding answers
  refused-by n p e = go (judged f k s) e
    where
      go : (j : Judged) → judged_said j ≡ refused n p → j ≡ refusal n p
      go (Ok m) d = cc
      go (Err r) d =
          let number : r.number ≡ n = cc in
          let place : r.place ≡ p = cc in ap₂ refusal number place
