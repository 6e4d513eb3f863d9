-- `string_numbered` meets its contract: the verdict, then the list, then the place of the number. Assumes nothing.
use Rattle.std.proofs.Common.{sym, ◌∙◌}
use Rattle.verdict.proofs.laws.Kept.{handed, missing, present}
use Rattle.tiny.proofs.laws.Shown.{string-refused, string-off, string-found}
use Rattle.tiny.proofs.string_numbered.Goals as goal

pub returns-in_err-judge : goal.returns-in_err-judge
returns-in_err-judge c = let a = c.args in
    let told = string-refused a.kinds a.image.now a.number (handed _ c.from_residual.ensures.1) c.in_err-judge.ensures in
    record { answer = told.0; text_said = told.1 }

pub returns-then-not-has_tag : goal.returns-then-not-has_tag
returns-then-not-has_tag c = let a = c.args in
    let told = string-off a.kinds a.image.now a.number c.in_ok-judge.ensures c.if-not-has_tag.ensures in
    record { answer = told.0; text_said = told.1 }

pub returns-in_err-at : goal.returns-in_err-at
returns-in_err-at c = let a = c.args in
    let none = missing _ c.in_err-at.ensures.value in
    let out = handed _ c.from_residual-in_err-at.ensures.1 in
    let told = string-found a.kinds a.image.now a.number (sym (rw c.pool_of-pool.ensures at c.string_place.ensures) ∙ none.0) c.in_ok-judge.ensures c.if-not-has_tag.ensures (rw none.1 at out) in
    record { answer = told.0; text_said = told.1 }

pub returns : goal.returns
returns c = let a = c.args in
    let told = string-found a.kinds a.image.now a.number (sym (rw c.pool_of-pool.ensures at c.string_place.ensures) ∙ present _ _ c.in_ok-at.ensures.value) c.in_ok-judge.ensures c.if-not-has_tag.ensures (rw (c.string_at.ensures, c.pool_of-pool.ensures)) in
    record { answer = told.0; text_said = told.1 }
