-- Two tables that agree rule by rule, up to the first that is broken, give one answer; and what two answers that go by a verdict have to agree on.
-- Assumes nothing.
use Rattle.std.specs.Prelude.{ℕ, List, [], ◌∷◌, ◌≡◌, refl, Some, None, Ok, Err}
use Rattle.std.proofs.Common.{ap, ap₂, ◌∙◌}
use Rattle.chain.specs.Found.{Found}
use Rattle.verdict.specs.Verdict.{refuse, answer}
use Rattle.verdict.specs.Answers.{Judged}
use Rattle.verdict.specs.declared.Refusal.{Refusal}
use Rattle.verdict.proofs.laws.Accepted.{Clear}

-- the same numbers, and rule by rule the same place; the later rules only where this one is not broken
abbrev pub Agree : List (ℕ × Found) → List (ℕ × Found) → Type 0
Agree [] [] = Unit {0}
Agree [] (y ∷ ys) = ⊥
Agree (x ∷ xs) [] = ⊥
Agree (x ∷ xs) (y ∷ ys) = (x.0 ≡ y.0) × (x.1 ≡ y.1) × (x.1 ≡ None → Agree xs ys)

-- what `Agree` asks of one rule of number n, where A is what it asks of the later ones
pub agree-more : {n : ℕ} {f g : Found} {A : Type 0} → f ≡ g → (f ≡ None → A) → (n ≡ n) × (f ≡ g) × (f ≡ None → A)
agree-more e more = (refl, e, more)

-- what comes after the tables need agree only where the first is clear
pub agree-answer : (l m : List (ℕ × Found)) (i j : Judged) → Agree l m → (Clear l → i ≡ j) → answer l i ≡ answer m j
agree-answer [] [] i j a h = h tt
agree-answer [] (y ∷ ys) i j a h = absurd a
agree-answer (x ∷ xs) [] i j a h = absurd a
agree-answer (x ∷ xs) (y ∷ ys) i j a h =
    go x.1 refl (λ e. agree-answer xs ys i j (a.2 e) (λ c. h (e, c)))
    ∙ ap₂ (λ (n : ℕ) (f : Found). refuse n f (answer ys j)) a.0 a.1
  where
    go : (f : Found) → x.1 ≡ f → (x.1 ≡ None → answer xs i ≡ answer ys j) → refuse x.0 f (answer xs i) ≡ refuse x.0 f (answer ys j)
    go (Some p) e more = refl
    go None e more = more e

-- two answers that go by the verdict on two images agree where the verdicts do, and the answers do for an accepted image and for a refused one
pub verdict-agree :
    {A : Type 0} (f g : Judged → A) (i j : Judged) → i ≡ j → ((c : ℕ) → i ≡ Ok c → f (Ok c) ≡ g (Ok c))
    → ((r : Refusal) → f (Err r) ≡ g (Err r)) → f i ≡ g j
verdict-agree f g i j same accepted refused = go i refl ∙ ap g same
  where
    go : (v : Judged) → i ≡ v → f v ≡ g v
    go (Ok c) e = accepted c e
    go (Err r) e = refused r
