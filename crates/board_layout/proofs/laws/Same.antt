-- Two images that agree on the head of a structure have the same signature, versions, Length and table there, the same end, the same next place and the
-- same places of records. Where heads agree along the walk, the structures lie at the same places. And two images that agree up to StructLen have the
-- same places whatever they hold: a head that passes StructLen is the last either way. Assumes nothing.
use Rattle.std.specs.Prelude.{ℕ, ◌+◌, ◌≤◌, List, ◌≡◌}
use Rattle.std.proofs.Common.{inl, inr, ◌∙◌, arith}
use Rattle.std.proofs.Math.Path.{ap, ap₂}
use Rattle.board_layout.specs.Layout.{signature_at, major_at, minor_at, length_at, shape_at, struct_len, end_at, round16, covers, next, structures, map_at, data_offset, record_size, records}
use Rattle.board_layout.specs.Places.{VerMajor, VerMinor, Length, head_size, StructLen}
use Rattle.board_layout.specs.Shapes.{shape_of}
use Rattle.board_layout.specs.declared.Records.{Records}
use Rattle.board_layout.proofs.laws.Layout.{next-far, next-grows}
use Rattle.chain.specs.All.{All}
use Rattle.chain.specs.Chain.{chain, ahead}
use Rattle.chain.proofs.laws.Agree.{chain-agree, Close, chain-close}
use Rattle.chain.proofs.laws.All.{all-map}
use Rattle.chain.proofs.laws.Below.{below}
use Rattle.chain.proofs.laws.Places.{chain-all}
use Rattle.octets.proofs.laws.Same.{Same, same-part, le16-same, le32-same, le64-same}

-- ---- at a structure whose head agrees
module _ (s t : List ℕ) (p : ℕ) (head : Same s t p (p + head_size)) where
  -- the same signature, versions and Length
  pub signature-same : signature_at s p ≡ signature_at t p
  signature-same = le64-same s t p (p + head_size) head p (omega arith) (omega arith)

  pub major-same : major_at s p ≡ major_at t p
  major-same = le16-same s t p (p + head_size) head (p + VerMajor) (omega arith) (omega arith)

  pub minor-same : minor_at s p ≡ minor_at t p
  minor-same = le16-same s t p (p + head_size) head (p + VerMinor) (omega arith) (omega arith)

  pub length-same : length_at s p ≡ length_at t p
  length-same = le32-same s t p (p + head_size) head (p + Length) (omega arith) (omega arith)

  -- the same table
  pub shape-same : shape_at s p ≡ shape_at t p
  unfolding shape_at
  shape-same = ap₂ shape_of signature-same major-same

  -- the same end, and the same place of the next structure
  pub end-same : end_at s p ≡ end_at t p
  unfolding end_at
  end-same = ap (λ (n : ℕ). p + n) length-same

  pub next-same : next s p ≡ next t p
  unfolding next
  next-same = ap (λ (n : ℕ). round16 (p + covers n)) length-same

  -- the same places of records
  pub records-same : (which : Records) → records which s p ≡ records which t p
  unfolding records
  records-same which = ap (λ (end : ℕ). chain (ahead (record_size which)) end (p + data_offset which)) end-same

-- ---- along the walk
-- where StructLen agrees and the heads along the walk do, the structures lie at the same places
pub structures-agree : (s t : List ℕ) → struct_len s ≡ struct_len t → All (λ p. Same s t p (p + head_size)) (structures s) → structures s ≡ structures t
structures-agree s t e heads =
    chain-agree (next s) (next t) (struct_len s) (next-grows s) (next-grows t) 0
    (all-map (λ p. Same s t p (p + head_size)) (λ p. next s p ≡ next t p) (next-same s t) (structures s) heads)
    ∙ ap (λ (end : ℕ). chain (next t) end 0) e

-- ---- images that agree up to StructLen
module _ (s t : List ℕ) (long : 0x20 ≤ struct_len s) (same : Same s t 0 (struct_len s)) where
  -- the same StructLen
  pub struct-len-same : struct_len s ≡ struct_len t
  struct-len-same = le32-same s t 0 (struct_len s) same StructLen (omega arith) (omega arith)

  -- a part before StructLen agrees, and so does a head there
  pub part-same : (a b : ℕ) → b ≤ struct_len s → Same s t a b
  part-same a b h = same-part s t 0 (struct_len s) a b (omega arith) h same

  pub head-same : (p : ℕ) → p + head_size ≤ struct_len s → Same s t p (p + head_size)
  head-same p h = part-same p (p + head_size) h

  -- the walk from any place visits the same places
  pub walk-same : (p : ℕ) → chain (next s) (struct_len s) p ≡ chain (next t) (struct_len t) p
  walk-same p =
      chain-close (next s) (next t) (struct_len s) (next-grows s) (next-grows t) p
      (chain-all (next s) (struct_len s) (next-grows s) (Close (next s) (next t) (struct_len s)) p
      (λ q _ _.
      elim (below (struct_len s) (q + head_size)) [
        | inl past ↦ inr (omega (arith, past, next-far s q), omega (arith, past, next-far t q))
        | inr room ↦ inl (next-same s t q (head-same q room))
      ]))
      ∙ ap (λ (end : ℕ). chain (next t) end p) struct-len-same

  -- so the structures lie at the same places
  pub structures-same : structures s ≡ structures t
  structures-same = walk-same 0

  -- the second structure starts at the same place
  pub map-place-same : map_at s ≡ map_at t
  unfolding map_at
  map-place-same = next-same s t 0 (head-same 0 (omega arith))
