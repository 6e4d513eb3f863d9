-- `choice` meets its contract: by the verdicts on both images. Assumes nothing.
use Rattle.std.proofs.Common.{ℕ, sym, ◌∙◌, ap, Ok, Err}
use Rattle.choice.specs.Choice.{choice_of}
use Rattle.choice.specs.declared.Part.TheVariants.{Firmware, Eeprom}
use Rattle.choice.proofs.choice.Goals as goal

pub returns-in-Ok-Ok : goal.returns-in-Ok-Ok
unfolding choice_of
returns-in-Ok-Ok c = rw (sym c.judge.ensures ∙ c.in-Ok-Ok.is-0, sym c.judge-2.ensures ∙ c.in-Ok-Ok.is-1) c.of_both.ensures

pub returns-in-Ok-Err : goal.returns-in-Ok-Err
unfolding choice_of
returns-in-Ok-Err c = rw (sym c.judge.ensures ∙ c.in-Ok-Err.is-0, sym c.judge-2.ensures ∙ c.in-Ok-Err.is-1) (ap (λ (n : ℕ). Ok (Firmware n)) c.struct_len.ensures)

pub returns-in-Err-Ok : goal.returns-in-Err-Ok
unfolding choice_of
returns-in-Err-Ok c = rw (sym c.judge.ensures ∙ c.in-Err-Ok.is-0, sym c.judge-2.ensures ∙ c.in-Err-Ok.is-1) (ap (λ (n : ℕ). Ok (Eeprom n)) c.struct_len-in-Err-Ok.ensures)

pub returns-in-Err-Err : goal.returns-in-Err-Err
unfolding choice_of
returns-in-Err-Err c = rw (sym c.judge.ensures ∙ c.in-Err-Err.is-0, sym c.judge-2.ensures ∙ c.in-Err-Err.is-1) (ap Err (sym c.in-Err-Err.refusal-is))
