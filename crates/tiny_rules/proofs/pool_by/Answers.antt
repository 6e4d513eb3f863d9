-- `pool_by` meets its contract. An item that is found lies before the check byte (`known-found`), so its place fits in a byte. Assumes nothing.
use Rattle.std.proofs.Common.{rules, sym, ◌∙◌, arith}
use Rattle.tiny_layout.specs.Pool.{pool}
use Rattle.tiny_layout.proofs.laws.Pool.{known-found}
use Rattle.tiny_rules.proofs.pool_by.Goals as goal

pub returns-in-None : goal.returns-in-None
unfolding pool
returns-in-None c = search rules

pub overflow_cast-at : goal.overflow_cast-at
overflow_cast-at c = omega (arith, (known-found c.args.kinds c.args.image.now 0x01 _ (sym c.requires ∙ c.in-Some.is)).to, c.type_inv.image 2)

pub returns-in-Some : goal.returns-in-Some
unfolding pool
returns-in-Some c = search rules
