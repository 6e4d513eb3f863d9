-- `kinds::Kinds::has_signature` meets its contract: at a number of the table an arm answers the mark of its row, by computation; any other number
-- has no mark. Assumes nothing.
use Rattle.std.proofs.Common.{sym}
use Rattle.kinds.specs.Kinds.{listed, signatures}
use Rattle.kinds.proofs.Absent.{unmarked}
use Rattle.kinds.proofs.Kinds.has_signature.Goals as goal

pub returns-in-7809897515647713572 : goal.returns-in-7809897515647713572
unfolding listed
returns-in-7809897515647713572 c = simp c.in-7809897515647713572.is

pub returns-in-8027224612482860580 : goal.returns-in-8027224612482860580
unfolding listed
returns-in-8027224612482860580 c = simp c.in-8027224612482860580.is

pub returns-in-8386059226441598756 : goal.returns-in-8386059226441598756
unfolding listed
returns-in-8386059226441598756 c = simp c.in-8386059226441598756.is

pub returns-in-7162241211437434916 : goal.returns-in-7162241211437434916
unfolding listed
returns-in-7162241211437434916 c = simp c.in-7162241211437434916.is

pub returns-in-40060895317028 : goal.returns-in-40060895317028
unfolding listed
returns-in-40060895317028 c = simp c.in-40060895317028.is

pub returns-in-7450763869408283940 : goal.returns-in-7450763869408283940
unfolding listed
returns-in-7450763869408283940 c = simp c.in-7450763869408283940.is

pub returns-in-8027224647313476900 : goal.returns-in-8027224647313476900
unfolding listed
returns-in-8027224647313476900 c = simp c.in-8027224647313476900.is

pub returns-in-10244581199410468 : goal.returns-in-10244581199410468
unfolding listed
returns-in-10244581199410468 c = simp c.in-10244581199410468.is

pub returns-in-10255580428588580 : goal.returns-in-10255580428588580
unfolding listed
returns-in-10255580428588580 c = simp c.in-10255580428588580.is

pub returns-in_default : goal.returns-in_default
unfolding listed
returns-in_default c = sym (unmarked c.args.signature (signatures c.args.self) c.in_default.in_default-own.rest)
