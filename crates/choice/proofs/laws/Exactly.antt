-- Each answer is given exactly where the paper's sentences give it. Assumes nothing.
use Rattle.std.specs.Prelude.{ℕ, Bool, List, ◌⊎◌, ◌↔◌, Ok, Err}
use Rattle.std.proofs.Math.Bool.{true, false, cond, false≢true}
use Rattle.std.proofs.Math.Logic.{inl, inr}
use Rattle.std.proofs.Math.Path.{◌≡◌, refl, sym, ap}
use Rattle.std.proofs.Common.{subst, ◌∙◌}
use Rattle.board_layout.specs.Layout.{struct_len}
use Rattle.board_rules.specs.Judged.{judged}
use Rattle.choice.specs.Choice.{eeprom_wins, choice_if, choice_of}
use Rattle.choice.specs.AnswerTypes.{ChoiceAnswer}
use Rattle.choice.specs.declared.Part.TheVariants.{Firmware, Eeprom}
use Rattle.choice.proofs.laws.Boards.{Newer, wins-exactly}
use Rattle.kinds.specs.declared.Kinds.{Kinds}
use Rattle.verdict.specs.Answers.{Judged}
use Rattle.verdict.specs.declared.Refusal.{Refusal}

-- a reader with this list accepts an image, or refuses it
abbrev pub Accepts : Kinds → List ℕ → Type 0
Accepts k s = (n : ℕ) × (judged k s ≡ Ok n)

abbrev pub Refuses : Kinds → List ℕ → Type 0
Refuses k s = (r : Refusal) × (judged k s ≡ Err r)

-- what each answer says of the two images
abbrev pub Says : Kinds → List ℕ → List ℕ → ChoiceAnswer → Type 0
Says k f e (Ok (Firmware n)) = Accepts k f × (struct_len f ≡ n) × (Refuses k e ⊎ (Newer f e → ⊥))
Says k f e (Ok (Eeprom n)) = Accepts k e × (struct_len e ≡ n) × (Refuses k f ⊎ Newer f e)
Says k f e (Err r) = (judged k f ≡ Err r) × Refuses k e

module _ (k : Kinds) (f e : List ℕ) where
  -- the answer given says so
  pub choice-says : Says k f e (choice_of k f e)
  unfolding choice_of
  choice-says = go (judged k f) (judged k e) refl refl
    where
      go : (x y : Judged) → judged k f ≡ x → judged k e ≡ y → Says k f e (choice_if f e x y)
      go (Ok n) (Ok m) a b = pick (eeprom_wins f e) refl
        where
          pick : (t : Bool) → eeprom_wins f e ≡ t → Says k f e (cond {A = ChoiceAnswer} t (Ok (Eeprom (struct_len e))) (Ok (Firmware (struct_len f))))
          pick true w = ((m, b), refl, inr ((wins-exactly f e).0 w))
          pick false w = ((n, a), refl, inr (λ v. false≢true (sym w ∙ (wins-exactly f e).1 v)))
      go (Ok n) (Err q) a b = ((n, a), refl, inl (q, b))
      go (Err r) (Ok m) a b = ((m, b), refl, inl (r, a))
      go (Err r) (Err q) a b = (a, (q, b))

  -- and an answer that says so is given
  pub says-choice : (a : ChoiceAnswer) → Says k f e a → choice_of k f e ≡ a
  unfolding choice_of
  says-choice (Ok (Firmware n)) says = rw says.0.1 (go (judged k e) refl says.2 ∙ ap (λ (n : ℕ). Ok (Firmware n)) says.1)
    where
      go : (y : Judged) → judged k e ≡ y → Refuses k e ⊎ (Newer f e → ⊥) → choice_if f e (Ok says.0.0) y ≡ Ok (Firmware (struct_len f))
      go (Ok m) b (inl other) = let d : ◌≡◌ {A = Judged} (Ok m) (Err other.0) = sym b ∙ other.1 in cc
      go (Ok m) b (inr older) = pick (eeprom_wins f e) refl
        where
          pick : (t : Bool) → eeprom_wins f e ≡ t → cond {A = ChoiceAnswer} t (Ok (Eeprom (struct_len e))) (Ok (Firmware (struct_len f))) ≡ Ok (Firmware (struct_len f))
          pick true w = absurd (older ((wins-exactly f e).0 w))
          pick false w = refl
      go (Err q) b h = refl
  says-choice (Ok (Eeprom n)) says = rw says.0.1 (go (judged k f) refl says.2 ∙ ap (λ (n : ℕ). Ok (Eeprom n)) says.1)
    where
      go : (x : Judged) → judged k f ≡ x → Refuses k f ⊎ Newer f e → choice_if f e x (Ok says.0.0) ≡ Ok (Eeprom (struct_len e))
      go (Ok n) a (inl other) = let d : ◌≡◌ {A = Judged} (Ok n) (Err other.0) = sym a ∙ other.1 in cc
      go (Ok n) a (inr newer) = rw ((wins-exactly f e).1 newer)
      go (Err r) a h = refl
  says-choice (Err r) says = rw (says.0, says.1.1)

  pub choice-exactly : (a : ChoiceAnswer) → (choice_of k f e ≡ a) ↔ Says k f e a
  choice-exactly a = (λ h. subst (Says k f e) h choice-says, says-choice a)

  -- a refusal: exactly where both are refused, and then it is firmware's
  pub neither-exactly : (r : Refusal) → (choice_of k f e ≡ Err r) ↔ ((judged k f ≡ Err r) × Refuses k e)
  neither-exactly r = choice-exactly (Err r)

  -- EEPROM: exactly where it is accepted and firmware is refused, or is of the same board with a smaller Version
  pub eeprom-exactly : (n : ℕ) → (choice_of k f e ≡ Ok (Eeprom n)) ↔ (Accepts k e × (struct_len e ≡ n) × (Refuses k f ⊎ Newer f e))
  eeprom-exactly n = choice-exactly (Ok (Eeprom n))

  -- firmware: exactly where it is accepted and EEPROM is refused, or is not of the same board with a greater Version
  pub firmware-exactly : (n : ℕ) → (choice_of k f e ≡ Ok (Firmware n)) ↔ (Accepts k f × (struct_len f ≡ n) × (Refuses k e ⊎ (Newer f e → ⊥)))
  firmware-exactly n = choice-exactly (Ok (Firmware n))
