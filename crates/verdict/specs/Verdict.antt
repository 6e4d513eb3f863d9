-- The answer of a judge. Paper 01: "The lowest number that applies is given; within a number, the smallest place where the rule breaks."
-- Assumes nothing.
use Rattle.std.specs.Prelude.{ℕ, List, [], ◌∷◌, Result, Some, None, Ok, Err}
use Rattle.chain.specs.Found.{Found}
use Rattle.verdict.specs.Answers.{Judged}
use Rattle.verdict.specs.declared.Refusal.{Refusal}

-- refused with this number at this place, whatever else would be answered
abbrev pub refusal : {A : Type 0} → ℕ → ℕ → Result A Refusal
refusal n p = Err (record { number = n; place = p })

-- rule n, which is broken first where `found` says: kept where it is broken nowhere
abbrev pub kept : ℕ → Found → Result (Unit {0}) Refusal
kept n (Some p) = refusal n p
kept n None = Ok tt

-- rule n is broken first where `found` says: refused with n there; where it is not broken, the answer j
abbrev pub refuse : ℕ → Found → Judged → Judged
refuse n (Some p) j = refusal n p
refuse n None j = j

-- a table of rules in their order, each with its number and where it is broken first; and after them the answer j
abbrev pub answer : List (ℕ × Found) → Judged → Judged
answer [] j = j
answer (r ∷ rs) j = refuse r.0 r.1 (answer rs j)
