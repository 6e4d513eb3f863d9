-- `Structure::is_plain` meets its contract: what the tests say of the structure (`plain-here`). Where one fails nothing is claimed. Assumes nothing.
use Rattle.std.proofs.Common.{sym, ◌∙◌, eqb-true}
use Rattle.board_rules.proofs.laws.Plain.{plain-here}
use Rattle.board_rules.proofs.structure.Structure.is_plain.Goals as goal

pub returns-then-after-self : goal.returns-then-after-self
returns-then-after-self c = let s = c.args.self.now in
    λ e. plain-here c.args.kinds s.image.now s.at
    (sym c.is_known.ensures ∙ c.if-is_known.false)
    (sym c.mark.ensures ∙ c.if-mark-ne36.false)
    (rw c.length.ensures at c.if-length-lt16.false)
    c.after-after.ensures
    (rw s.seen.all at c.if-after-self.true)
    (sym c.finish.ensures ∙ eqb-true _ _ e)
