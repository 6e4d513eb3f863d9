-- `walk::prom_sig` meets its contract: a search along the structures. Assumes nothing.
use Rattle.std.proofs.Common.{◌≡◌, ℕ, ◌∙◌, ap, rules, arith, eqb}
use Rattle.std.specs.Bool.{then_some}
use Rattle.board_layout.specs.Layout.{next}
use Rattle.board_layout.proofs.laws.Checks.{then-when}
use Rattle.board_layout.proofs.laws.Layout.{next-grows}
use Rattle.board_rules.specs.Rules.{is_prom_sig, prom_sig_at}
use Rattle.chain.specs.Chain.{chain}
use Rattle.chain.specs.First.{first}
use Rattle.kinds.specs.Signatures.{prom_sig}
use Rattle.octets.specs.Bytes.{le64}
use Rattle.board_rules.proofs.walk.prom_sig.Goals as goal

pub first_along-requires-clause-grows : goal.first_along-requires-clause-grows
first_along-requires-clause-grows c =
    λ p q h e. let grows = next-grows c.args.image.now p in let is : q ≡ next c.args.image.now p = search rules in omega (arith, grows, is)

pub returns : goal.returns
unfolding prom_sig_at
returns c = let s = c.args.image.now in
    c.first_along.ensures (is_prom_sig s) (next s)
    (λ p f h e. let is : f ≡ then_some (eqb (le64 s p) prom_sig) p = search rules in is ∙ then-when _ _)
    (next-grows s) (λ p q h e. search rules)
    ∙ ap (λ (end : ℕ). first (is_prom_sig s) (chain (next s) end 0)) c.struct_len.ensures
