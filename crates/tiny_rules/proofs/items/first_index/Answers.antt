-- `items::first_index` meets its contract: what the search along the items asks of each is rule 10. Assumes nothing.
use Rattle.std.proofs.Common.{ℕ, ◌∙◌, ap, rules}
use Rattle.chain.specs.Chain.{chain}
use Rattle.chain.specs.First.{first}
use Rattle.chain.proofs.laws.Along.{goes-on}
use Rattle.tiny_layout.specs.Layout.{next}
use Rattle.tiny_layout.proofs.laws.Layout.{next-grows}
use Rattle.tiny_rules.specs.Rules.{on_known, bad_index}
use Rattle.tiny_rules.proofs.items.first_index.Goals as goal

pub first_along-requires-clause-grows : goal.first_along-requires-clause-grows
first_along-requires-clause-grows c = goes-on (next c.args.image.now) (next-grows c.args.image.now) (λ p q h e. search rules)

pub returns : goal.returns
returns c = let s = c.args.image.now in let rule = on_known c.args.kinds s (bad_index s c.args.count) in
    c.first_along.ensures rule (next s) (λ p f h e. search rules) (next-grows s) (λ p q h e. search rules)
    ∙ ap (λ (end : ℕ). first rule (chain (next s) end 3)) c.check_place.ensures
