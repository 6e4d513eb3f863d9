-- Between which bounds the judge's answers lie. By the paper's table: L is a byte, so an item starts below 256, and ends there once rule 6 is not broken.
-- Assumes nothing.
use Rattle.std.specs.Prelude.{ℕ, ◌+◌, ◌≤◌, List, ◌≡◌, refl, Ok}
use Rattle.std.proofs.Common.{inl, inr, arith}
use Rattle.chain.specs.Finds.{Nowhere}
use Rattle.chain.proofs.laws.Below.{below}
use Rattle.chain.proofs.laws.Places.{count-bound}
use Rattle.kinds.specs.declared.Kinds.{Kinds}
use Rattle.octets.specs.Bytes.{byte, Octets}
use Rattle.tiny_layout.specs.Layout.{check_place, data_at, next}
use Rattle.tiny_layout.specs.Tags.{shape_of, field_bytes}
use Rattle.tiny_layout.specs.declared.Shape.TheVariants.{Identity, Batched}
use Rattle.tiny_layout.proofs.laws.Layout.{next-grows, item-within}
use Rattle.tiny_layout.proofs.laws.Tags.{fields-within, indexes-within}
use Rattle.tiny_rules.specs.Broken.{ItemAt, BatchedAt, IdentityAt, under_four_lent, wrong_magic, wrong_version, total_below_four, total_above_lent, wrong_check, Broken6, item_passes, length_byte_passes, long_tag_zero, pool_not_last, no_character_there, last_unmarked, index_not_below, Broken11, major_out_of_range, minor_out_of_range, characters_out_of_range, batch_out_of_range, table}
use Rattle.tiny_rules.specs.Judged.{judged}
use Rattle.tiny_rules.proofs.laws.Accepted.{total-within, accepted-count}
use Rattle.tiny_rules.proofs.laws.Table.{refused-exactly}
use Rattle.verdict.specs.Verdict.{refusal}
use Rattle.verdict.proofs.laws.Bounds.{Bounded, row, first-within}

module _ (k : Kinds) (s : List ℕ) (octets : Octets s) where
  -- an item's tag
  tag-most : (p : ℕ) → ItemAt k s p → p ≤ 255
  tag-most p a = omega (arith, octets 2, (item-within s a.0 p a.1).1)

  -- rule 6 is not broken: its end
  end-most : Nowhere (Broken6 k s) → (p : ℕ) → ItemAt k s p → next s p ≤ 255
  end-most fit p a =
      elim (below (check_place s) (next s p)) [
        | inl h ↦ absurd (fit p (item_passes a h))
        | inr h ↦ omega (arith, octets 2)
      ]

  -- the fields of an identity with a batch number
  batched-most : Nowhere (Broken6 k s) → (p : ℕ) → BatchedAt k s p → data_at s p + 8 ≤ 255
  batched-most fit p (a, e) =
      let h : data_at s p + field_bytes Batched ≤ next s p = rw e at (fields-within s p) in omega (arith, end-most fit p a.0)

  -- or without one
  identity-most : Nowhere (Broken6 k s) → (p : ℕ) → IdentityAt k s p → data_at s p + 6 ≤ 255
  identity-most fit p (inl (a, e)) =
      let h : data_at s p + field_bytes Identity ≤ next s p = rw e at (fields-within s p) in omega (arith, end-most fit p a.0)
  identity-most fit p (inr a) = omega (arith, batched-most fit p a)

  -- a field of an item
  field-most : Nowhere (Broken6 k s) → (q : ℕ) → Broken11 k s q → q ≤ 255
  field-most fit q (major_out_of_range p a at h) = omega (arith, identity-most fit p a)
  field-most fit q (minor_out_of_range p a at h) = omega (arith, identity-most fit p a)
  field-most fit q (characters_out_of_range p a at h) = omega (arith, identity-most fit p a)
  field-most fit q (batch_out_of_range p a at h) = omega (arith, batched-most fit p a)

  -- the rows, each where none before it is broken
  bounded : Bounded 255 (table k s)
  bounded =
      row (λ q b. elim b [ under_four_lent at h ↦ omega arith ]) λ _.
      row (λ q b. elim b [ wrong_magic at h ↦ omega arith ]) λ _.
      row (λ q b. elim b [ wrong_version at h ↦ omega arith ]) λ _.
      row (λ q b. elim b [ total_below_four at h ↦ omega arith | total_above_lent at h ↦ omega arith ]) λ _.
      row (λ q b. elim b [ wrong_check at h ↦ omega (arith, octets 2) ]) λ _.
      row (λ q b. elim b [ item_passes a h ↦ tag-most q a | length_byte_passes a h ↦ tag-most q a ]) λ fit.
      row (λ q b. elim b [ long_tag_zero a h ↦ tag-most q a ]) λ _.
      row (λ q b. elim b [ pool_not_last a p c h ↦ tag-most q a.0.0 ]) λ _.
      row
      (λ q b.
      elim b [
        | no_character_there p a from to h ↦ omega (arith, end-most fit p a.0.0)
        | last_unmarked p a from to h ↦ omega (arith, end-most fit p a.0.0)
      ]) λ _.
      row
      (λ q b.
      elim b [
        | index_not_below l p a from to h ↦ omega (arith, indexes-within (shape_of (byte s p)), fields-within s p, end-most fit p a.0)
      ]) λ _.
      row (field-most fit) λ _. tt

  -- a refusal has a number from 1 to 11, and a place below 256
  pub refused-bounds : (n p : ℕ) → judged k s ≡ refusal n p → (1 ≤ n) × (n ≤ 11) × (p ≤ 255)
  refused-bounds n p e = first-within 1 11 255 (table k s) refl bounded n p ((refused-exactly k s n p).0 e)

  -- an accepted image has fewer than 256 items
  pub accepted-bound : (n : ℕ) → judged k s ≡ Ok n → n ≤ 255
  accepted-bound n e =
      omega (
        arith,
        octets 2,
        accepted-count k s n e,
        count-bound (next s) (check_place s) (next-grows s) 3 (omega (arith, (total-within k s n e).0)),
      )
