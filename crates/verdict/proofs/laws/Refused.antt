-- What a refusal tells: a rule of the table is broken at that place, and none before it in the table is. Assumes nothing.
use Rattle.std.specs.Prelude.{ℕ, List, [], ◌∷◌, ◌++◌, ◌⊎◌, ◌≡◌, refl, Some, None}
use Rattle.std.proofs.Common.{inl, inr, ap, ap₂, ◌∙◌}
use Rattle.chain.specs.Found.{Found}
use Rattle.verdict.specs.Said.{fields, judged_said}
use Rattle.verdict.specs.Verdict.{refusal, refuse, answer}
use Rattle.verdict.specs.Answers.{Judged}
use Rattle.verdict.proofs.laws.Accepted.{Clear}

-- rule n of the table is broken at p, and each rule before it is clear
pub record Broken (l : List (ℕ × Found)) (n p : ℕ) : Type 0 where
  pub earlier : List (ℕ × Found)
  pub later : List (ℕ × Found)
  pub split : l ≡ earlier ++ ((n, Some p) ∷ later)
  pub kept : Clear earlier

-- the table refuses, or it is clear and what comes after it refuses
abbrev pub Told : List (ℕ × Found) → Judged → ℕ → ℕ → Type 0
Told l j n p = Broken l n p ⊎ (Clear l × (j ≡ refusal n p))

pub refused-by : (l : List (ℕ × Found)) (j : Judged) (n p : ℕ) → answer l j ≡ refusal n p → Told l j n p
refused-by [] j n p e = inr (tt, e)
refused-by (r ∷ rs) j n p e = go r.1 refl e (λ k. refused-by rs j n p k)
  where
    here : (q : ℕ) → r.1 ≡ Some q → refusal {A = ℕ} r.0 q ≡ refusal n p → Broken (r ∷ rs) n p
    here q d e =
        record {
          earlier = [];
          later = rs;
          split =
              ap₂ (λ (m : ℕ) (f : Found). (m, f) ∷ rs) (ap (λ (k : Judged). (fields (judged_said k)).number) e)
              (d ∙ ap (λ (k : Judged). Some (fields (judged_said k)).place) e);
          kept = tt;
        }

    later : r.1 ≡ None → Told rs j n p → Told (r ∷ rs) j n p
    later d (inl b) =
        inl (record { earlier = r ∷ b.earlier; later = b.later; split = ap (λ (l : List (ℕ × Found)). r ∷ l) b.split; kept = (d, b.kept) })
    later d (inr c) = inr ((d, c.0), c.1)

    go : (f : Found) → r.1 ≡ f → refuse r.0 f (answer rs j) ≡ refusal n p → (answer rs j ≡ refusal n p → Told rs j n p) → Told (r ∷ rs) j n p
    go (Some q) d e more = inl (here q d e)
    go None d e more = later d (more e)
