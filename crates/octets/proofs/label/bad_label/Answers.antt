-- `bad_label` meets its contract, by where the text ends. That place fits, since each byte before it is a character, which lies within the image. Assumes nothing.
use Rattle.std.proofs.Common.{sym, ◌∙◌, arith, ne_eqb, ◌^◌, eq-eqb}
use Rattle.octets.specs.Label.{bad_label}
use Rattle.octets.proofs.laws.Label.{text-within}
use Rattle.octets.proofs.label.bad_label.Goals as goal

pub returns-in_err-i : goal.returns-in_err-i
unfolding bad_label
returns-in_err-i c = rw (sym c.in_err-i.ensures) c.from_residual.ensures

pub returns-then-byte_from-eq36 : goal.returns-then-byte_from-eq36
unfolding bad_label
returns-then-byte_from-eq36 c = rw (sym c.in_ok-i.ensures, eq-eqb _ _ (sym c.byte_from.ensures ∙ c.if-byte_from-eq36.true))
    c.first_nonzero.ensures

pub overflow_add-result : goal.overflow_add-result
overflow_add-result c = omega (arith, text-within c.args.s.now c.args.at _ (2 ^ 64) (sym c.in_ok-i.ensures) (omega arith) (omega arith))

pub returns : goal.returns
unfolding bad_label
returns c = rw (sym c.in_ok-i.ensures, ne_eqb _ _ (λ e. c.if-byte_from-eq36.false (c.byte_from.ensures ∙ e)))
