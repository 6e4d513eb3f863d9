-- A search along the records of a structure finds the smallest place where one of them is broken. Assumes nothing.
use Rattle.std.specs.Prelude.{ℕ, ◌+◌, ◌≤◌, ◌<◌, List}
use Rattle.std.proofs.Common.{arith}
use Rattle.board_layout.specs.Layout.{end_at, data_offset, record_size, records}
use Rattle.board_layout.specs.declared.Records.{Records}
use Rattle.board_layout.proofs.laws.Layout.{record-size}
use Rattle.chain.specs.Chain.{ahead}
use Rattle.chain.specs.Finds.{Among, Finds}
use Rattle.chain.specs.First.{first}
use Rattle.chain.specs.Found.{Found}
use Rattle.chain.proofs.laws.Finds.{finds-along}
use Rattle.chain.proofs.laws.Nth.{nth-all}
use Rattle.chain.proofs.laws.Places.{chain-within}
use Rattle.chain.proofs.laws.Steps.{ahead-grows}

module _ (which : Records) (s : List ℕ) (p : ℕ) where
  -- one record starts after the other
  record-grows : (r : ℕ) → r < ahead (record_size which) r
  record-grows = ahead-grows (record_size which) (omega (arith, (record-size which).0))

  -- each starts where the data do, or later
  pub record-after : (r : ℕ) → Among (records which s p) r → p + data_offset which ≤ r
  unfolding records
  record-after r a =
      (nth-all (λ q. (p + data_offset which ≤ q) × (q < end_at s p)) (records which s p) a.0 r
      (chain-within (ahead (record_size which)) (end_at s p) record-grows (p + data_offset which)) a.1).0

  -- a record is broken at z
  abbrev pub InRecord : (ℕ → ℕ → Type 0) → ℕ → Type 0
  InRecord B z = (r : ℕ) × (Among (records which s p) r × B r z)

  pub finds-records : (rule : ℕ → Found) (B : ℕ → ℕ → Type 0) → ((r z : ℕ) → B r z → (r ≤ z) × (z ≤ r + record_size which))
      → ((r : ℕ) → Among (records which s p) r → Finds (B r) (rule r)) → Finds (InRecord B) (first rule (records which s p))
  unfolding records
  finds-records rule B own =
      finds-along rule (ahead (record_size which)) (end_at s p) record-grows B own (p + data_offset which)
