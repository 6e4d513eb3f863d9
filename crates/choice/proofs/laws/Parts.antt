-- The part handed back is as long as the answer says, and is accepted as the lent image is: with the same list and the same count. Assumes nothing.
use Rattle.std.specs.Prelude.{ℕ, ◌≤◌, List, [], ◌≡◌, length, take, Ok, Err}
use Rattle.std.proofs.Math.Path.{refl}
use Rattle.std.proofs.Common.{subst, arith, length-take-le}
use Rattle.board_layout.specs.Layout.{struct_len}
use Rattle.board_rules.specs.Judged.{judged}
use Rattle.board_rules.proofs.laws.Accepted.{struct-len-within}
use Rattle.board_rules.proofs.laws.Front.{front-accepted}
use Rattle.choice.specs.Choice.{choice_of, part, chosen_of}
use Rattle.choice.specs.AnswerTypes.{ChoiceAnswer}
use Rattle.choice.specs.declared.Part.TheVariants.{Firmware, Eeprom}
use Rattle.choice.proofs.laws.Exactly.{Says, choice-exactly, choice-says}
use Rattle.kinds.specs.declared.Kinds.{Kinds}
use Rattle.verdict.specs.declared.Refusal.{Refusal}

-- the first n bytes of a lent image, accepted as it is
pub record Handed (k : Kinds) (lent : List ℕ) (n : ℕ) (part : List ℕ) : Type 0 where
  pub count : ℕ
  pub whole : judged k lent ≡ Ok count
  pub alone : judged k part ≡ Ok count
  pub front : part ≡ take n lent
  pub long : length part ≡ n

-- what each answer says of the part
abbrev pub Part : Kinds → List ℕ → List ℕ → ChoiceAnswer → List ℕ → Type 0
Part k f e (Ok (Firmware n)) l = Handed k f n l
Part k f e (Ok (Eeprom n)) l = Handed k e n l
Part k f e (Err r) l = l ≡ []

-- the first StructLen bytes of an accepted image
handed : (k : Kinds) (s : List ℕ) (m n : ℕ) → judged k s ≡ Ok m → struct_len s ≡ n → Handed k s n (take n s)
handed k s m n a h =
    record {
      count = m;
      whole = a;
      alone = subst (λ (i : ℕ). judged k (take i s) ≡ Ok m) h (front-accepted k s m a);
      front = refl;
      long = length-take-le n s (omega (arith, (struct-len-within k s m a).1, h));
    }

module _ (k : Kinds) (f e : List ℕ) where
  -- the part is what the answer says
  pub chosen-accepted : Part k f e (choice_of k f e) (chosen_of k f e)
  unfolding chosen_of
  chosen-accepted = go (choice_of k f e) (choice-says k f e)
    where
      go : (a : ChoiceAnswer) → Says k f e a → Part k f e a (part f e a)
      go (Ok (Firmware n)) s = handed k f s.0.0 n s.0.1 s.1
      go (Ok (Eeprom n)) s = handed k e s.0.0 n s.0.1 s.1
      go (Err r) s = refl

  -- the answered length is not above what is lent
  pub firmware-within : (n : ℕ) → choice_of k f e ≡ Ok (Firmware n) → n ≤ length f
  firmware-within n h =
      let s = (choice-exactly k f e (Ok (Firmware n))).0 h in omega (arith, (struct-len-within k f s.0.0 s.0.1).1, s.1)

  pub eeprom-within : (n : ℕ) → choice_of k f e ≡ Ok (Eeprom n) → n ≤ length e
  eeprom-within n h =
      let s = (choice-exactly k f e (Ok (Eeprom n))).0 h in omega (arith, (struct-len-within k e s.0.0 s.0.1).1, s.1)

  -- where neither is accepted it is empty
  pub neither-empty : (r : Refusal) → choice_of k f e ≡ Err r → chosen_of k f e ≡ []
  unfolding chosen_of
  neither-empty r h = rw h
