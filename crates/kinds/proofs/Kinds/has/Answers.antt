-- `kinds::Kinds::has` meets its contract: an arm has the answer of the function that it calls, and the kind is the one that the arm bound.
-- Assumes nothing.
use Rattle.std.proofs.Common.{sym, ◌∙◌, ap}
use Rattle.kinds.specs.Kinds.{listed}
use Rattle.kinds.proofs.Kinds.has.Goals as goal

pub returns-in-Tag : goal.returns-in-Tag
returns-in-Tag c = c.has_tag.ensures ∙ ap (listed c.args.self) (sym c.in-Tag.is)

pub returns-in-Signature : goal.returns-in-Signature
returns-in-Signature c = c.has_signature.ensures ∙ ap (listed c.args.self) (sym c.in-Signature.is)
