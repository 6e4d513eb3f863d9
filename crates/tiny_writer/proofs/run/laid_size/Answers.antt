-- `run::laid_size` meets its contract: head and data. Assumes nothing.
use Rattle.std.proofs.Common.{◌∙◌, ap, arith}
use Rattle.tiny_layout.specs.Layout.{head_size}
use Rattle.tiny_writer.proofs.laws.Laid.{laid-length}
use Rattle.tiny_writer.proofs.run.laid_size.Goals as goal

pub returns : goal.returns
returns c = let a = c.args in
    let h = c.head_size.ensures ∙ ap head_size c.byte_at.ensures in
    omega (arith, h, c.byte_from.ensures, laid-length a.items.now a.at)
