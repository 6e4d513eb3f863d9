-- `structure_place` meets its contract: the structures end at StructLen. Assumes nothing.
use Rattle.std.proofs.Common.{ℕ, ◌∙◌, ◌≡◌, ap, rules, arith}
use Rattle.chain.specs.Chain.{chain}
use Rattle.chain.specs.Nth.{nth}
use Rattle.board_layout.specs.Layout.{next}
use Rattle.board_layout.proofs.laws.Layout.{next-grows}
use Rattle.board_layout.proofs.structure_place.Goals as goal

pub place_of-requires-clause-grows : goal.place_of-requires-clause-grows
place_of-requires-clause-grows c =
    λ p q h e. let grows = next-grows c.args.image.now p in let is : q ≡ next c.args.image.now p = search rules in omega (arith, grows, is)

pub returns : goal.returns
returns c = let a = c.args in
    c.place_of.ensures (next a.image.now) (next-grows a.image.now) (λ p q h e. search rules)
    ∙ ap (λ (end : ℕ). nth (chain (next a.image.now) end 0) a.number) c.struct_len.ensures
