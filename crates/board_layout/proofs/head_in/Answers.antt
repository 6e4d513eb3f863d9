-- `head_in` meets its contract: the numbers of two and four bytes are parts of the number of eight that holds them. Assumes nothing.
use Rattle.std.proofs.Common.{arith}
use Rattle.octets.specs.Bytes.{Octets}
use Rattle.board_layout.proofs.laws.Head.{head-parts}
use Rattle.board_layout.proofs.head_in.Goals as goal

pub returns : goal.returns
returns c = let a = c.args in
    let bytes : Octets a.part.now = (λ p. omega (arith, c.type_inv.part p)) in
    rw (c.le64_at-rest.ensures, c.le64_at-signature.ensures) (head-parts a.part.now bytes 0)
