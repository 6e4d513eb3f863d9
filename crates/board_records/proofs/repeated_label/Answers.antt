-- `repeated_label` meets its contract: a search along the records before this one, whose labels are compared by halves. Assumes nothing.
use Rattle.std.proofs.Common.{◌≡◌, ℕ, ◌+◌, List, arith, sym, ◌∙◌, add-zero, eqb, ◌&&◌, rules}
use Rattle.board_layout.specs.Places.{MapLabel, map_record_size}
use Rattle.board_layout.proofs.laws.Checks.{then-when}
use Rattle.board_records.specs.Records.{same_label, repeated_label}
use Rattle.chain.specs.Chain.{ahead}
use Rattle.chain.specs.First.{when}
use Rattle.chain.specs.Found.{Found}
use Rattle.chain.proofs.laws.Steps.{ahead-grows}
use Rattle.std.specs.Bool.{then_some}
use Rattle.octets.specs.Bytes.{Octets, le64}
use Rattle.octets.proofs.laws.Runs.{same-by-halves}
use Rattle.board_records.proofs.repeated_label.Goals as goal

-- the record at e beside the one at r
abbrev beside : List ℕ → ℕ → ℕ → Found
beside s r e = when (same_label s e r) (r + MapLabel)

pub returns : goal.returns
unfolding repeated_label
returns c = let s = c.args.image.now in
    let r = c.args.at in
    let good : Octets s = λ k. omega (arith, c.type_inv.image k) in
    c.first_along.ensures (beside s r) (ahead map_record_size)
    (λ e f h k.
    let is : f ≡ then_some (eqb (le64 s e) c.le64_at-low.result && eqb (le64 s (e + 8)) c.le64_at-high.result) r = search rules in
    rw (c.le64_at-low.ensures, c.le64_at-high.ensures, then-when) at is ∙ sym (rw (add-zero e, add-zero r, same-by-halves s e s r good good)))
    (ahead-grows _ (omega arith)) (λ p q h e. search rules)
