-- `Structure::mark` meets its contract: the first byte is the lowest of the eight. Assumes nothing.
use Rattle.std.proofs.Common.{◌%◌, ap, ◌∙◌}
use Rattle.board_layout.specs.declared.Head.{Head}
use Rattle.octets.proofs.laws.Parts.{le64-first}
use Rattle.board_rules.proofs.structure.Structure.mark.Goals as goal

pub returns : goal.returns
returns c = let s = c.args.self.now in
    ap (λ (h : Head). h.signature % 256) s.seen.here ∙ le64-first s.image.now s.bytes s.at
