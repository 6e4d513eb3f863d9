-- `string_place` meets its contract: a string starts where the one before it ends. Assumes nothing.
use Rattle.std.proofs.Common.{rules}
use Rattle.chain.proofs.laws.Along.{goes-on}
use Rattle.tiny_layout.specs.Strings.{string_end}
use Rattle.tiny_layout.proofs.laws.Strings.{string-grows}
use Rattle.tiny_layout.proofs.string_place.Goals as goal

pub place_of-requires-clause-grows : goal.place_of-requires-clause-grows
place_of-requires-clause-grows c = goes-on (string_end c.args.image.now c.args.pool.to) (string-grows c.args.image.now c.args.pool.to) (λ p q h e. search rules)

pub returns : goal.returns
returns c = let a = c.args in
    c.place_of.ensures (string_end a.image.now a.pool.to) (string-grows a.image.now a.pool.to) (λ p q h e. search rules)
