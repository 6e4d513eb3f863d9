-- `entries::list_answer` meets its contract: the verdict, then whether the list is long enough. Assumes nothing.
use Rattle.std.proofs.Common.{sym, ◌∙◌, le-leb}
use Rattle.std.proofs.lemmas.Bool.{lt-leb}
use Rattle.verdict.proofs.laws.Kept.{handed}
use Rattle.reader.proofs.entries.list_answer.Goals as goal

pub returns-in_err-count : goal.returns-in_err-count
returns-in_err-count c = rw (sym c.judge.ensures.0 ∙ c.in_err-count.was) (handed c.from_residual.result c.from_residual.ensures.1)

pub returns-then-room-count : goal.returns-then-room-count
returns-then-room-count c = rw (sym c.judge.ensures.0 ∙ c.in_ok-count.was, lt-leb _ _ c.if-room-count.true) c.refused.ensures

pub returns : goal.returns
returns c = rw (sym c.judge.ensures.0 ∙ c.in_ok-count.was, le-leb _ _ c.if-room-count.false)
