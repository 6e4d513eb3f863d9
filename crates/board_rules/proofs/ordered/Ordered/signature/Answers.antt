-- `Ordered::signature` meets its contract: a signature structure that is found starts before StructLen, so its place fits in 32 bits. Assumes nothing.
use Rattle.std.proofs.Common.{◌≡◌, sym, ◌∙◌, arith, Some}
use Rattle.board_rules.specs.Rules.{prom_sig_at}
use Rattle.board_rules.proofs.laws.Order.{prom-sig-low}
use Rattle.board_rules.proofs.ordered.Ordered.signature.Goals as goal

pub overflow_cast-result : goal.overflow_cast-result
overflow_cast-result c = let s = c.args.self.now in
    let there : prom_sig_at s.image.now ≡ Some c.in_ok-place.place = sym s.finds.signature ∙ c.in_ok-place.was in
    omega (arith, prom-sig-low s.image.now s.bytes _ there)
