-- `covered_by` meets its contract: a signature structure that is found starts before StructLen, so the sum fits. Assumes nothing.
use Rattle.std.proofs.Common.{◌≡◌, sym, ◌∙◌, arith, Some}
use Rattle.board_rules.specs.Rules.{prom_sig_at}
use Rattle.board_rules.proofs.laws.Order.{prom-sig-low}
use Rattle.board_rules.proofs.covered_by.Goals as goal

pub overflow_add-result : goal.overflow_add-result
overflow_add-result c = let s = c.args.image.now in
    let there : prom_sig_at s ≡ Some c.in-Some.p = sym c.requires ∙ c.in-Some.is in
    omega (arith, prom-sig-low s (λ k. omega (arith, c.type_inv.image k)) _ there)
