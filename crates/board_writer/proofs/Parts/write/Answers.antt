-- `Parts::write` meets its contract: 46, 40, 41 and what is said of the image are cases of `laws.Order`. Assumes nothing.
use Rattle.std.proofs.Common.{ℕ, List, refl, sym, ◌∙◌, ap, arith, length-take, Err}
use Rattle.board_writer.specs.Image.{image}
use Rattle.board_writer.specs.Parts.{given}
use Rattle.board_writer.specs.Written.{reviewed}
use Rattle.board_writer.proofs.laws.Order.{written-odd, written-over, written-short, written-reviewed, whole-records, measured, too-long}
use Rattle.board_writer.proofs.laws.Sealing.{held-part}
use Rattle.verdict.specs.Written.{written_if}
use Rattle.verdict.specs.Answers.{WriteAnswer}
use Rattle.verdict.specs.declared.Refusal.{Refusal}
use Rattle.verdict.proofs.laws.Kept.{handed, missing, present}
use Rattle.board_writer.proofs.Parts.write.Goals as goal

pub returns-then-self-ne0 : goal.returns-then-self-ne0
returns-then-self-ne0 c = let a = c.args in
    ap (λ (w : WriteAnswer). (w, a.buffer.now)) c.refused.ensures ∙ sym (written-odd (given a.self.now) a.buffer.now c.if-self-ne0.true)

pub returns-in_err-end : goal.returns-in_err-end
returns-in_err-end c = let a = c.args in
    let x = given a.self.now in
    let none = missing _ c.in_err-end.ensures.value in
    ap (λ (w : WriteAnswer). (w, a.buffer.now)) (handed _ c.from_residual.ensures.1 ∙ ap (λ (r : Refusal). Err r) none.1)
    ∙ sym (written-over x a.buffer.now (whole-records x c.if-self-ne0.false) (too-long x (sym c.length.ensures ∙ none.0)))

pub lay-requires : goal.lay-requires
lay-requires c = let fits = measured (given c.args.self.now) _ (sym c.length.ensures ∙ present _ _ c.in_ok-end.ensures.value) in fits

pub returns-then-buffer-end : goal.returns-then-buffer-end
returns-then-buffer-end c = let a = c.args in
    let x = given a.self.now in
    let fits = measured x _ (sym c.length.ensures ∙ present _ _ c.in_ok-end.ensures.value) in
    ap (λ (w : WriteAnswer). (w, a.buffer.now)) c.refused-then-buffer-end.ensures
    ∙ sym (written-short x a.buffer.now (whole-records x c.if-self-ne0.false) (omega (arith, fits.0, fits.1)) (omega (arith, fits.0, c.if-buffer-end.true)))

pub hand_over-requires : goal.hand_over-requires
hand_over-requires c = simp length-take (omega (arith, c.if-buffer-end.false))

pub returns : goal.returns
returns c = let a = c.args in
    let x = given a.self.now in
    let fits = measured x _ (sym c.length.ensures ∙ present _ _ c.in_ok-end.ensures.value) in
    c.hand_over.ensures
    ∙ ap (λ (l : List ℕ). written_if l a.buffer.now (reviewed l)) (held-part _ (image x) c.in_ok-end.end c.in_ok-end.end 65536 refl c.lay.ensures)
    ∙ sym (written-reviewed x a.buffer.now (whole-records x c.if-self-ne0.false) (omega (arith, fits.0, fits.1)) (omega (arith, fits.0, c.if-buffer-end.false)))
