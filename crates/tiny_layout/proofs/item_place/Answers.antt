-- `item_place` meets its contract: the items end at the check byte. Assumes nothing.
use Rattle.std.proofs.Common.{ℕ, ◌∙◌, ap, rules}
use Rattle.chain.specs.Chain.{chain}
use Rattle.chain.specs.Nth.{nth}
use Rattle.chain.proofs.laws.Along.{goes-on}
use Rattle.tiny_layout.specs.Layout.{next}
use Rattle.tiny_layout.proofs.laws.Layout.{next-grows}
use Rattle.tiny_layout.proofs.item_place.Goals as goal

pub place_of-requires-clause-grows : goal.place_of-requires-clause-grows
place_of-requires-clause-grows c = goes-on (next c.args.image.now) (next-grows c.args.image.now) (λ p q h e. search rules)

pub returns : goal.returns
returns c = let a = c.args in
    c.place_of.ensures (next a.image.now) (next-grows a.image.now) (λ p q h e. search rules)
    ∙ ap (λ (end : ℕ). nth (chain (next a.image.now) end 3) a.number) c.check_place.ensures
