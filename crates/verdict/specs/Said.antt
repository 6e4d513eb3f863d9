-- What a call says, in the paper's numbers: a value, or a refusal with its number and place. Paper 01: "All other result fields are 0." Assumes nothing.
use Rattle.std.specs.Prelude.{ℕ, Result, Ok, Err}
use Rattle.verdict.specs.Answers.{Judged, WriteAnswer}
use Rattle.verdict.specs.declared.Refusal.{Refusal}

pub data Said (A : Type 0) : Type 0 where
  says : A → Said A
  refused : ℕ → ℕ → Said A

-- the paper's result fields of an answer whose value is a number: the refusal's number (0 where there is none), its place, and the value
pub record Fields : Type 0 where
  pub number : ℕ
  pub place : ℕ
  pub value : ℕ

abbrev pub fields : Said ℕ → Fields
fields (says n) = record { number = 0; place = 0; value = n }
fields (refused n p) = record { number = n; place = p; value = 0 }

-- what a call says that answers a value or a refusal: what the value has, or the refusal's number and place
abbrev pub said_by : {A B : Type 0} → (A → B) → Result A Refusal → Said B
said_by values (Ok x) = says (values x)
said_by values (Err r) = refused r.number r.place

-- what a judge says: the count of items
abbrev pub judged_said : Judged → Said ℕ
judged_said j = said_by (λ n. n) j

-- what a writer says: the image's length
abbrev pub write_said : WriteAnswer → Said ℕ
write_said w = said_by (λ n. n) w
