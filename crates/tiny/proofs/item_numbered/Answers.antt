-- `item_numbered` meets its contract: the verdict, then the place of the number. An item lies before the check byte (`item-within`), so its place fits in a byte.
-- Assumes nothing.
use Rattle.std.proofs.Common.{sym, ◌∙◌, arith}
use Rattle.tiny_layout.proofs.laws.Layout.{item-within}
use Rattle.verdict.proofs.laws.Kept.{handed, missing, present}
use Rattle.tiny.proofs.laws.Shown.{item-refused, item-found}
use Rattle.tiny.proofs.item_numbered.Goals as goal

pub returns-in_err-judge : goal.returns-in_err-judge
returns-in_err-judge c = let a = c.args in
    let told = item-refused a.kinds a.image.now a.number (handed _ c.from_residual.ensures.1) c.in_err-judge.ensures in
    record { answer = told.0; texts = told.1 }

pub returns-in_err-at : goal.returns-in_err-at
returns-in_err-at c = let a = c.args in
    let none = missing _ c.in_err-at.ensures.value in
    let out = handed _ c.from_residual-in_err-at.ensures.1 in
    let told = item-found a.kinds a.image.now a.number (sym c.item_place.ensures ∙ none.0) c.in_ok-judge.ensures (rw none.1 at out) in
    record { answer = told.0; texts = told.1 }

pub overflow_cast-at : goal.overflow_cast-at
overflow_cast-at c = let a = c.args in
    omega (arith, (item-within a.image.now a.number _ (sym c.item_place.ensures ∙ present _ _ c.in_ok-at.ensures.value)).1, c.type_inv.image 2)

pub returns : goal.returns
returns c = let a = c.args in
    let told = item-found a.kinds a.image.now a.number (sym c.item_place.ensures ∙ present _ _ c.in_ok-at.ensures.value) c.in_ok-judge.ensures (rw (c.item_at.ensures, c.pool_of.ensures)) in
    record { answer = told.0; texts = told.1 }
