-- `zero_run` meets its contract: what lies between the first eight bytes and the last eight is nothing (`none-by-ends`). Assumes nothing.
use Rattle.std.proofs.Common.{sym, ◌∙◌, arith, eqb-true}
use Rattle.octets.proofs.laws.Runs.{none-by-ends}
use Rattle.octets.proofs.zero_run.Goals as goal
use Rattle.octets.proofs.zero_run.Goals.{then-le64_within-eq0, else-le64_within-eq0}

pub returns-then-to-from-le16 : goal.returns-then-to-from-le16
returns-then-to-from-le16 c = let a = c.args in
    λ e. elim c.if-le64_within-eq0.branch [
      | then-le64_within-eq0 w ↦
          none-by-ends a.s.now a.at a.from a.to (omega arith) (omega arith) (sym c.le64_within.ensures ∙ w.if-le64_within-eq0.true)
          (sym w.le64_within-then-le64_within-eq0.ensures ∙ eqb-true _ _ (sym w.result-is ∙ e))
      | else-le64_within-eq0 w ↦ absurd (w.if-le64_within-eq0.false (eqb-true _ _ (sym w.result-is ∙ e)))
    ]
