-- `string_count` meets its contract: there are as many texts as places of strings (`texts-count`). Assumes nothing.
use Rattle.std.proofs.Common.{sym, ◌∙◌, rules}
use Rattle.chain.proofs.laws.Along.{goes-on}
use Rattle.tiny_layout.specs.Strings.{string_end}
use Rattle.tiny_layout.proofs.laws.Strings.{string-grows}
use Rattle.tiny_layout.proofs.laws.Texts.{texts-count}
use Rattle.tiny_layout.proofs.string_count.Goals as goal

pub count_along-requires-clause-grows : goal.count_along-requires-clause-grows
count_along-requires-clause-grows c = goes-on (string_end c.args.image.now c.args.pool.to) (string-grows c.args.image.now c.args.pool.to) (λ p q h e. search rules)

pub returns : goal.returns
returns c = let a = c.args in
    c.count_along.ensures (string_end a.image.now a.pool.to) (string-grows a.image.now a.pool.to) (λ p q h e. search rules)
    ∙ sym (texts-count a.image.now a.pool)
