-- `kinds::Kinds::has_tag` meets its contract: at a number of the table an arm answers the mark of its row, by computation; any other number
-- has no mark. Assumes nothing.
use Rattle.std.proofs.Common.{sym}
use Rattle.kinds.specs.Kinds.{listed, tags}
use Rattle.kinds.proofs.Absent.{unmarked}
use Rattle.kinds.proofs.Kinds.has_tag.Goals as goal

pub returns-in-1 : goal.returns-in-1
unfolding listed
returns-in-1 c = simp c.in-1.is

pub returns-in-16 : goal.returns-in-16
unfolding listed
returns-in-16 c = simp c.in-16.is

pub returns-in-17 : goal.returns-in-17
unfolding listed
returns-in-17 c = simp c.in-17.is

pub returns-in-96 : goal.returns-in-96
unfolding listed
returns-in-96 c = simp c.in-96.is

pub returns-in-97 : goal.returns-in-97
unfolding listed
returns-in-97 c = simp c.in-97.is

pub returns-in-98 : goal.returns-in-98
unfolding listed
returns-in-98 c = simp c.in-98.is

pub returns-in-128 : goal.returns-in-128
unfolding listed
returns-in-128 c = simp c.in-128.is

pub returns-in-129 : goal.returns-in-129
unfolding listed
returns-in-129 c = simp c.in-129.is

pub returns-in_default : goal.returns-in_default
unfolding listed
returns-in_default c = sym (unmarked c.args.tag (tags c.args.self) c.in_default.in_default-own.rest)
