-- What the answer says in the paper's numbers: with which image and which length the part is that image's first bytes, accepted as it is; with a refusal it is
-- firmware's, and the part is empty. Assumes nothing.
use Rattle.std.specs.Prelude.{ℕ, cond, List, [], ◌≡◌, eqb, Err, Ok}
use Rattle.std.proofs.Common.{subst, ◌∙◌, arith}
use Rattle.board_rules.specs.Judged.{judged}
use Rattle.choice.specs.Choice.{Chosen, choice_of, chosen_of, choice_said}
use Rattle.choice.specs.AnswerTypes.{ChoiceAnswer}
use Rattle.choice.specs.declared.Part.TheVariants.{Firmware, Eeprom}
use Rattle.choice.proofs.laws.Exactly.{Refuses, choice-says, Says}
use Rattle.choice.proofs.laws.Parts.{Handed, Part, chosen-accepted}
use Rattle.kinds.specs.declared.Kinds.{Kinds}
use Rattle.verdict.specs.Said.{says, refused}
use Rattle.verdict.specs.Verdict.{refusal}

-- the image that is meant: 0 is firmware, 1 is EEPROM
abbrev pub lent : List ℕ → List ℕ → ℕ → List ℕ
lent f e which = cond (eqb which 0) f e

module _ (k : Kinds) (f e : List ℕ) where
  -- which image and its length: the part is its first bytes, accepted with the same list and count
  pub said-part : (c : Chosen) → choice_said (choice_of k f e) ≡ says c → Handed k (lent f e c.which) c.length (chosen_of k f e)
  said-part c = go (choice_of k f e) (chosen-accepted k f e)
    where
      go : (a : ChoiceAnswer) → Part k f e a (chosen_of k f e) → choice_said a ≡ says c → Handed k (lent f e c.which) c.length (chosen_of k f e)
      go (Ok (Firmware n)) h d =
          let same : record { which = 0; length = n } ≡ c = cc in
          subst (λ (x : Chosen). Handed k (lent f e x.which) x.length (chosen_of k f e)) same h
      go (Ok (Eeprom n)) h d =
          let same : record { which = 1; length = n } ≡ c = cc in
          subst (λ (x : Chosen). Handed k (lent f e x.which) x.length (chosen_of k f e)) same h
      go (Err r) h d = let z : ◌≡◌ {A = ℕ} 0 1 = cc in absurd (omega arith)

  -- a refusal: both are refused, it is firmware's, and the part is empty
  pub said-refused : (n p : ℕ) → choice_said (choice_of k f e) ≡ refused n p → (judged k f ≡ refusal n p) × Refuses k e × (chosen_of k f e ≡ [])
  said-refused n p = go (choice_of k f e) (choice-says k f e) (chosen-accepted k f e)
    where
      go : (a : ChoiceAnswer) → Says k f e a → Part k f e a (chosen_of k f e) → choice_said a ≡ refused n p
          → (judged k f ≡ refusal n p) × Refuses k e × (chosen_of k f e ≡ [])
      go (Ok (Firmware m)) s h d = let z : ◌≡◌ {A = ℕ} 0 1 = cc in absurd (omega arith)
      go (Ok (Eeprom m)) s h d = let z : ◌≡◌ {A = ℕ} 0 1 = cc in absurd (omega arith)
      go (Err r) s h d =
          let number : r.number ≡ n = cc in
          let place : r.place ≡ p = cc in
          (s.0 ∙ (λ i. Err (record { number = number i; place = place i })), s.1, h)
