-- `same_run` meets its contract: there is no first difference. Assumes nothing.
use Rattle.std.proofs.Common.{◌∙◌, ap}
use Rattle.octets.specs.Runs.{is_nothing, same_run}
use Rattle.octets.proofs.laws.Runs.{nothing-where-not-some}
use Rattle.octets.proofs.same_run.Goals as goal

pub returns : goal.returns
unfolding same_run
returns c = nothing-where-not-some _ _ c.is_none.ensures ∙ ap is_nothing c.first_difference.ensures
