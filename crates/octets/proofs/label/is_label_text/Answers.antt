-- `is_label_text` meets its contract: not '$', and a character. Assumes nothing.
use Rattle.std.proofs.Math.Bool.{and-true}
use Rattle.std.proofs.Common.{sym, ◌∙◌, ne_eqb}
use Rattle.octets.specs.Label.{is_label_text}
use Rattle.octets.proofs.laws.Label.{dollar-text}
use Rattle.octets.proofs.label.is_label_text.Goals as goal

pub returns-then-b-eq36 : goal.returns-then-b-eq36
returns-then-b-eq36 c = sym (dollar-text _ c.if-b-eq36.true)

pub returns : goal.returns
unfolding is_label_text
returns c = c.is_text.ensures ∙ rw (ne_eqb _ _ c.if-b-eq36.false) (sym (and-true _))
