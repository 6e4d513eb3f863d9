-- `first_record` meets its contract: a search along a chain of records of one size. A structure ends below 2 ^ 33, so that places fit. Assumes nothing.
use Rattle.std.proofs.Common.{◌≡◌, ℕ, ◌+◌, ◌<◌, ◌^◌, ap, arith, ◌∙◌, rules}
use Rattle.board_layout.specs.Layout.{record_size, records}
use Rattle.board_layout.proofs.laws.Layout.{record-size}
use Rattle.board_layout.proofs.laws.Near.{end-near}
use Rattle.chain.specs.Chain.{ahead}
use Rattle.chain.proofs.laws.Steps.{ahead-grows}
use Rattle.std.proofs.iter.Serving.{serving}
use Rattle.board_records.proofs.first_record.Goals as goal

pub first_along-requires-clause-askable : goal.first_along-requires-clause-askable
first_along-requires-clause-askable g c = let near = end-near c.args.image.now (λ k. omega (arith, c.type_inv.image k)) c.args.structure in
    λ p h. c.requires.askable p (omega (arith, near, h, c.end_at.ensures))

pub first_along-requires-clause-callable : goal.first_along-requires-clause-callable
first_along-requires-clause-callable g c = let near = end-near c.args.image.now (λ k. omega (arith, c.type_inv.image k)) c.args.structure in
    let below : c.end_at.result < 2 ^ 33 = omega (arith, near, c.end_at.ensures) in
    grind (serving, below)

pub first_along-requires-clause-grows : goal.first_along-requires-clause-grows
first_along-requires-clause-grows g c = let size = record-size c.args.which in
    λ p q h e. let is : q ≡ p + c.record_size.result = search rules in omega (arith, size, c.record_size.ensures, is)

pub returns : goal.returns
unfolding records
returns g c = let s = c.args.image.now in
    let near = end-near s (λ k. omega (arith, c.type_inv.image k)) c.args.structure in
    let size = c.record_size.ensures in
    λ said asks.
    rw (c.data_offset.ensures, c.end_at.ensures) at
    c.first_along.ensures said (ahead (record_size c.args.which)) (λ p f h k. asks p f (omega (arith, near, h, c.end_at.ensures)) k)
    (ahead-grows _ (omega (arith, record-size c.args.which)))
    (λ p q h e. let is : q ≡ p + c.record_size.result = search rules in is ∙ ap (λ (n : ℕ). p + n) size)
