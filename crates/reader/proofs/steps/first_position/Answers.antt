-- `steps::first_position` meets its contract, field by field. Assumes nothing.
use Rattle.reader.proofs.steps.first_position.Goals as goal

pub returns : goal.returns
returns c = rw (c.first_place.ensures, c.items_end.ensures, c.pool_of.ensures, c.judge.ensures.0)
