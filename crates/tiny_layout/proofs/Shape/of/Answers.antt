-- `Shape::of` meets its contract: each arm answers its row, by computation. Assumes nothing.
use Rattle.std.proofs.Common.{rules}
use Rattle.tiny_layout.specs.Tags.{shape_of}
use Rattle.tiny_layout.proofs.Shape.of.Goals as goal

pub returns-in-1 : goal.returns-in-1
unfolding shape_of
returns-in-1 c = search rules

pub returns-in-16 : goal.returns-in-16
unfolding shape_of
returns-in-16 c = search rules

pub returns-in-17 : goal.returns-in-17
unfolding shape_of
returns-in-17 c = search rules

pub returns-in-96 : goal.returns-in-96
unfolding shape_of
returns-in-96 c = search rules

pub returns-in-97 : goal.returns-in-97
unfolding shape_of
returns-in-97 c = search rules

pub returns-in-98 : goal.returns-in-98
unfolding shape_of
returns-in-98 c = search rules

pub returns-in-128 : goal.returns-in-128
unfolding shape_of
returns-in-128 c = search rules

pub returns-in-129 : goal.returns-in-129
unfolding shape_of
returns-in-129 c = search rules

pub returns-in_default : goal.returns-in_default
unfolding shape_of
returns-in_default c = search rules
