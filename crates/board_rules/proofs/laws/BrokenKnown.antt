-- Rules 32 and 33 find the smallest place where they are broken: what is asked of a known structure is answered by a place of that structure, and so one
-- known structure is asked after the other. Neither needs another rule. Assumes nothing.
use Rattle.std.specs.Prelude.{ℕ, ◌≤◌, true, List, ◌≡◌, refl}
use Rattle.std.proofs.Math.Logic.{inl, inr}
use Rattle.std.proofs.Common.{arith}
use Rattle.board_fields.specs.Inside.{bad_inside}
use Rattle.board_fields.specs.Reserved.{reserved_used}
use Rattle.board_layout.specs.Layout.{shape_at, struct_len, end_at, next, structures}
use Rattle.board_layout.specs.Shapes.{knows}
use Rattle.board_layout.specs.declared.Shape.{Shape}
use Rattle.board_layout.proofs.laws.Layout.{next-grows, end-next}
use Rattle.board_rules.specs.Broken.{GpioRecordAt, Broken32, Broken33}
use Rattle.board_rules.specs.Rules.{on_known, rule32, rule33}
use Rattle.board_rules.proofs.laws.BrokenInside.{gpio_record, InsideAt, finds-inside, inside-own}
use Rattle.board_rules.proofs.laws.BrokenReserved.{ReservedAt, finds-reserved, reserved-own}
use Rattle.chain.specs.Finds.{Among, Finds}
use Rattle.chain.specs.First.{first}
use Rattle.chain.specs.Found.{Found}
use Rattle.chain.proofs.laws.Finds.{finds-as, finds-under, finds-along}
use Rattle.kinds.specs.declared.Kinds.{Kinds}

module _ (k : Kinds) (s : List ℕ) where
  -- a known structure is broken at z
  abbrev AtKnown : (ℕ → Shape → ℕ → Type 0) → ℕ → Type 0
  AtKnown B z = (p : ℕ) × (Among (structures s) p × ((knows k (shape_at s p) ≡ true) × B p (shape_at s p) z))

  -- a rule on the known structures
  finds-known : (rule : ℕ → Shape → Found) (B : ℕ → Shape → ℕ → Type 0) → ((p z : ℕ) (a : Shape) → B p a z → (p ≤ z) × (z ≤ end_at s p))
      → ((p : ℕ) (a : Shape) → Finds (B p a) (rule p a)) → Finds (AtKnown B) (first (on_known k s rule) (structures s))
  finds-known rule B own each =
      finds-along (on_known k s rule) (next s) (struct_len s) (next-grows s) Known
      (λ p z b. let w = own p z (shape_at s p) b.1 in (w.0, omega (arith, w.1, end-next s p))) 0 (λ p a. looked p)
    where
      Known : ℕ → ℕ → Type 0
      Known p z = (knows k (shape_at s p) ≡ true) × B p (shape_at s p) z

      looked : (p : ℕ) → Finds (Known p) (on_known k s rule p)
      looked p =
          finds-under (Known p) (knows k (shape_at s p)) (rule p (shape_at s p))
          (λ e. finds-as (B p (shape_at s p)) (Known p) (λ z b. (e, b)) (λ z b. b.1) (rule p (shape_at s p)) (each p (shape_at s p))) (λ z b. b.0)

  -- ---- 32
  pub finds32 : Finds (Broken32 k s) (rule32 k s)
  unfolding rule32
  finds32 =
      finds-as (AtKnown (ReservedAt s)) (Broken32 k s) to back (rule32 k s) (finds-known (reserved_used s) (ReservedAt s) (reserved-own s) (finds-reserved s))
    where
      to : (z : ℕ) → AtKnown (ReservedAt s) z → Broken32 k s z
      to z (p, (here, (known, (minor, inl (ends, from, upto, set))))) =
          Broken32.reserved_nonzero p (here, known) minor ends from upto set
      to z (p, (here, (known, (minor, inr (w, (has, (r, (among, (ends, from, upto, set))))))))) =
          Broken32.record_nonzero w p r (here, known) minor has among ends from upto set

      back : (z : ℕ) → Broken32 k s z → AtKnown (ReservedAt s) z
      back z (Broken32.reserved_nonzero p (here, known) minor ends from upto set) =
          (p, (here, (known, (minor, inl (ends, from, upto, set)))))
      back z (Broken32.record_nonzero w p r (here, known) minor has among ends from upto set) =
          (p, (here, (known, (minor, inr (w, (has, (r, (among, (ends, from, upto, set)))))))))

  -- ---- 33
  pub finds33 : Finds (Broken33 k s) (rule33 k s)
  unfolding rule33
  finds33 =
      finds-as (AtKnown (InsideAt s)) (Broken33 k s) to back (rule33 k s) (finds-known (bad_inside s) (InsideAt s) (inside-own s) (finds-inside s))
    where
      of-record : (z p r : ℕ) → GpioRecordAt k s p r → (gpio_record s r).broken z → Broken33 k s z
      of-record z p r at (inl b) = Broken33.gpio_label p r at b
      of-record z p r at (inr (inl (place, b))) = Broken33.gpio_length p r at place b
      of-record z p r at (inr (inr (inl (place, b)))) = Broken33.data_size_other p r at place b.0 b.1 b.2
      of-record z p r at (inr (inr (inr (inl (place, b))))) = Broken33.gpio_type_over4 p r at place b
      of-record z p r at (inr (inr (inr (inr b)))) = absurd b

      to : (z : ℕ) → AtKnown (InsideAt s) z → Broken33 k s z
      to z (p, (here, (known, inl (start, short)))) = rw start (Broken33.under_fixed_part (here, known) short)
      to z (p, (here, (known, inr (fixed, inl (shape, place, b))))) = Broken33.fpga_type_over4 p ((here, known), fixed) shape place b
      to z (p, (here, (known, inr (fixed, inr (shape, inl (start, cut)))))) = rw start (Broken33.gpio_not_whole ((here, known), fixed) shape cut)
      to z (p, (here, (known, inr (fixed, inr (shape, inr (r, (among, (whole, b)))))))) =
          of-record z p r (((here, known), fixed), shape, among, whole) b

      record-back : (z p r : ℕ) → GpioRecordAt k s p r → (gpio_record s r).broken z → AtKnown (InsideAt s) z
      record-back z p r (((here, known), fixed), shape, among, whole) b =
          (p, (here, (known, inr (fixed, inr (shape, inr (r, (among, (whole, b))))))))

      back : (z : ℕ) → Broken33 k s z → AtKnown (InsideAt s) z
      back z (Broken33.under_fixed_part (here, known) short) = (z, (here, (known, inl (refl, short))))
      back z (Broken33.fpga_type_over4 p ((here, known), fixed) shape place b) = (p, (here, (known, inr (fixed, inl (shape, place, b)))))
      back z (Broken33.gpio_type_over4 p r at place b) = record-back z p r at (inr (inr (inr (inl (place, b)))))
      back z (Broken33.gpio_not_whole ((here, known), fixed) shape cut) = (z, (here, (known, inr (fixed, inr (shape, inl (refl, cut))))))
      back z (Broken33.gpio_length p r at place b) = record-back z p r at (inr (inl (place, b)))
      back z (Broken33.gpio_label p r at b) = record-back z p r at (inl b)
      back z (Broken33.data_size_other p r at place one two four) = record-back z p r at (inr (inr (inl (place, (one, two, four)))))
