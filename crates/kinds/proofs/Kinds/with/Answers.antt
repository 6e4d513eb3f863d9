-- `kinds::Kinds::with` meets its contract: an arm has the answer of the function that it calls, and the kind is the one that the arm bound.
-- Assumes nothing.
use Rattle.std.proofs.Common.{sym, ◌∙◌, ap}
use Rattle.kinds.specs.Kinds.{extended}
use Rattle.kinds.proofs.Kinds.with.Goals as goal

pub returns-in-Tag : goal.returns-in-Tag
returns-in-Tag c = c.with_tag.ensures ∙ ap (extended c.args.self) (sym c.in-Tag.is)

pub returns-in-Signature : goal.returns-in-Signature
returns-in-Signature c = c.with_signature.ensures ∙ ap (extended c.args.self) (sym c.in-Signature.is)
