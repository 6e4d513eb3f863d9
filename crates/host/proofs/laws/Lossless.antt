-- Nothing is lost on the way to C: what it takes out of a number is what the judge, the name or the choice says. A refusal's number fits in eight bits and is
-- not 0; a count, a length and a place fit in 32 bits. Assumes nothing.
use Rattle.std.specs.Prelude.{ℕ, ◌≤◌, ◌<◌, Bool, cond, List, ◌≡◌, refl, eqb, Ok, Err}
use Rattle.std.proofs.Common.{ap, ap₂, ◌∙◌, arith, eq-eqb, ne_eqb}
use Rattle.board_rules.specs.Judged as board
use Rattle.board_rules.proofs.laws.Bounds as board-bounds
use Rattle.choice.specs.Choice.{Chosen, choice_of, choice_said}
use Rattle.choice.specs.AnswerTypes.{ChoiceAnswer}
use Rattle.choice.specs.declared.Part.TheVariants.{Firmware, Eeprom}
use Rattle.choice.proofs.laws.Exactly.{Says, choice-says}
use Rattle.host.specs.Numbers.{number, chosen_number, refusal_bits, low_bits, eeprom_bit, taken, taken_choice}
use Rattle.kinds.specs.declared.Kinds.{Kinds}
use Rattle.octets.specs.Bytes.{Octets}
use Rattle.tiny.specs.Answers.{name_of}
use Rattle.tiny.specs.Values.{name_said}
use Rattle.tiny.proofs.laws.Bounds.{name-view}
use Rattle.tiny_rules.specs.Judged as tiny
use Rattle.tiny_rules.proofs.laws.Bounds as tiny-bounds
use Rattle.verdict.specs.Said.{Said, says, refused, judged_said}
use Rattle.verdict.specs.Verdict.{refusal}
use Rattle.verdict.specs.Answers.{Judged}

-- ---- one number
-- what is taken out of a: the value, by what the refusal bits say
abbrev taken_as : {A : Type 0} → Said A → ℕ → Said A
taken_as value a = cond (eqb (refusal_bits a) 0) value (refused (refusal_bits a) (low_bits a))

-- of a refusal nothing is lost, whatever stands for a value
refusal-kept : {A : Type 0} (value : Said A) (n p : ℕ) → 1 ≤ n → n < 0x100 → p < 0x100000000 → taken_as value (number (refused n p)) ≡ refused n p
refusal-kept {A} value n p some small low =
    let a : ℕ = number (refused n p) in
    let bits : refusal_bits a ≡ n = omega arith in
    let place : low_bits a ≡ p = omega arith in
    ap₂ (λ (m q : ℕ). cond {A = Said A} (eqb m 0) value (refused m q)) bits place
    ∙ ap (λ (b : Bool). cond {A = Said A} b value (refused n p)) (ne_eqb n 0 (λ e. omega arith))

-- without a refusal the value is taken
value-kept : {A : Type 0} (value : Said A) (a : ℕ) → refusal_bits a ≡ 0 → taken_as value a ≡ value
value-kept {A} value a none =
    ap (λ (b : Bool). cond {A = Said A} b value (refused (refusal_bits a) (low_bits a))) (eq-eqb (refusal_bits a) 0 none)

-- a refusal
pub refusal-taken : (n p : ℕ) → 1 ≤ n → n < 0x100 → p < 0x100000000 → taken (number (refused n p)) ≡ refused n p
refusal-taken n p = refusal-kept (says (low_bits (number (refused n p)))) n p

-- a count or a length
pub value-taken : (m : ℕ) → m < 0x100000000 → taken (number (says m)) ≡ says m
value-taken m low =
    let a : ℕ = number (says m) in value-kept (says (low_bits a)) a (omega arith) ∙ ap says (omega arith)

-- the image that is chosen
pub choice-taken : (c : Chosen) → c.which < 2 → c.length < 0x100000000 → taken_choice (chosen_number (says c)) ≡ says c
choice-taken c one low =
    let a : ℕ = chosen_number (says c) in
    value-kept (says (record { which = eeprom_bit a; length = low_bits a })) a (omega arith)
    ∙ ap₂ (λ (w l : ℕ). says (record { which = w; length = l })) (omega arith) (omega arith)

-- ---- what a judge says, by the bounds of its refusals and of its counts
judge-taken : (j : Judged) → ((n p : ℕ) → j ≡ refusal n p → (1 ≤ n) × (n < 0x100) × (p < 0x100000000)) → ((n : ℕ) → j ≡ Ok n → n < 0x100000000)
    → taken (number (judged_said j)) ≡ judged_said j
judge-taken (Ok n) refusals counts = value-taken n (counts n refl)
judge-taken (Err r) refusals counts = let b = refusals r.number r.place refl in refusal-taken r.number r.place b.0 b.1 b.2

-- the judge of tiny images
pub tiny-judge-lossless : (k : Kinds) (s : List ℕ) → Octets s → taken (number (judged_said (tiny.judged k s))) ≡ judged_said (tiny.judged k s)
tiny-judge-lossless k s octets =
    judge-taken (tiny.judged k s)
    (λ n p e. let b = tiny-bounds.refused-bounds k s octets n p e in (b.0, omega (arith, b.1), omega (arith, b.2)))
    (λ n e. omega (arith, tiny-bounds.accepted-bound k s octets n e))

-- the judge of board images
pub board-judge-lossless : (k : Kinds) (s : List ℕ) → taken (number (judged_said (board.judged k s))) ≡ judged_said (board.judged k s)
board-judge-lossless k s =
    judge-taken (board.judged k s)
    (λ n p e. let b = board-bounds.refused-bounds k s n p e in (omega (arith, b.0), omega (arith, b.1), omega (arith, b.2)))
    (λ n e. omega (arith, (board-bounds.accepted-bounds k s n e).0))

-- the name
pub name-lossless : (k : Kinds) (s buffer : List ℕ) → Octets s → taken (number (name_said (name_of k s buffer).0)) ≡ name_said (name_of k s buffer).0
name-lossless k s buffer octets =
    name-view k s octets (λ x. taken (number x) ≡ x)
    (λ n p e.
    let b = tiny-bounds.refused-bounds k s octets n p e in refusal-taken n p b.0 (omega (arith, b.1)) (omega (arith, b.2)))
    refl refl (λ n h. value-taken n (omega arith)) buffer

-- the choice
pub choice-lossless : (k : Kinds) (f e : List ℕ) → taken_choice (chosen_number (choice_said (choice_of k f e))) ≡ choice_said (choice_of k f e)
choice-lossless k f e = go (choice_of k f e) (choice-says k f e)
  where
    go : (a : ChoiceAnswer) → Says k f e a → taken_choice (chosen_number (choice_said a)) ≡ choice_said a
    go (Ok (Firmware n)) h =
        choice-taken (record { which = 0; length = n }) (omega arith) (omega (arith, h.1, (board-bounds.accepted-bounds k f h.0.0 h.0.1).1))
    go (Ok (Eeprom n)) h =
        choice-taken (record { which = 1; length = n }) (omega arith) (omega (arith, h.1, (board-bounds.accepted-bounds k e h.0.0 h.0.1).1))
    go (Err r) h =
        let b = board-bounds.refused-bounds k f r.number r.place h.0 in
        refusal-kept (says _) r.number r.place (omega (arith, b.0)) (omega (arith, b.1)) (omega (arith, b.2))
