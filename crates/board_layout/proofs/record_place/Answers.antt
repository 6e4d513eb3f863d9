-- `record_place` meets its contract: record n starts n sizes past the first, where that lies before the end; so a number from the end on is of none.
-- Assumes nothing.
use Rattle.std.proofs.Common.{◌≡◌, ℕ, ◌+◌, ◌*◌, ◌≤◌, List, sym, ◌∙◌, ap, arith, Bool, ltb, le-ltb, None}
use Rattle.board_layout.specs.Layout.{end_at, data_offset, record_size, records}
use Rattle.board_layout.specs.declared.Records.{Records}
use Rattle.board_layout.specs.declared.Records.TheVariants.{Map, Gpio}
use Rattle.board_layout.proofs.laws.Checks.{then-when}
use Rattle.board_layout.proofs.laws.Layout.{record-size}
use Rattle.board_layout.proofs.laws.Near.{end-near}
use Rattle.chain.specs.First.{when}
use Rattle.chain.specs.Nth.{nth}
use Rattle.chain.proofs.laws.Steps.{steps-place}
use Rattle.board_layout.proofs.record_place.Goals as goal

-- n records have from n to n * 30h bytes
sizes : (which : Records) (n : ℕ) → (n ≤ n * record_size which) × (n * record_size which ≤ n * 0x30)
sizes Map n = (omega arith, omega arith)
sizes Gpio n = (omega arith, omega arith)

-- record n of the structure at p
module _ (which : Records) (s : List ℕ) (p n : ℕ) where
  abbrev start : ℕ
  start = p + data_offset which + n * record_size which

  place : nth (records which s p) n ≡ when (ltb start (end_at s p)) start
  unfolding records
  place =
      steps-place (record_size which) (omega (arith, (record-size which).0)) n (p + data_offset which) (end_at s p)

  none : end_at s p ≤ start → None ≡ nth (records which s p) n
  none h = sym (place ∙ ap (λ (b : Bool). when b start) (le-ltb start (end_at s p) h))

pub returns-then-end-number : goal.returns-then-end-number
returns-then-end-number c = let a = c.args in
    none a.which a.image.now a.at a.number
    (omega (arith, c.end_at-end.ensures, c.if-end-number.true, (sizes a.which a.number).0))

pub overflow_mul-place : goal.overflow_mul-place
overflow_mul-place c = let a = c.args in
    let near = end-near a.image.now (λ p. omega (arith, c.type_inv.image p)) a.at in
    rw c.record_size.ensures (omega (arith, near, (sizes a.which a.number).1))

pub overflow_add-place-2 : goal.overflow_add-place-2
overflow_add-place-2 c = let a = c.args in
    let near = end-near a.image.now (λ p. omega (arith, c.type_inv.image p)) a.at in
    rw c.record_size.ensures (omega (arith, near, (sizes a.which a.number).1))

pub returns : goal.returns
returns c = let a = c.args in
    rw (c.record_size.ensures, c.data_offset.ensures, c.end_at-end.ensures) at c.then_some.ensures ∙ then-when _ _ ∙ sym (place a.which a.image.now a.at a.number)
