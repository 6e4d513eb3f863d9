-- At a plain structure the first walk finds nothing: it is counted and that is all. Assumes nothing.
use Rattle.std.specs.Prelude.{ℕ, ◌+◌, ◌-◌, ◌%◌, ◌≤◌, Bool, ◌||◌, List, ◌≡◌, eqb, ltb, None}
use Rattle.std.proofs.Math.Bool.{true, false, cond}
use Rattle.std.proofs.lemmas.Bool.{false≢true}
use Rattle.std.proofs.Common.{inl, inr, sym, ◌∙◌, arith}
use Rattle.std.proofs.Math.Path.{ap, refl}
use Rattle.board_layout.specs.Layout.{signature_at, major_at, length_at, shape_at, struct_len, end_at, round16, covers, next}
use Rattle.board_layout.specs.Shapes.{shape_of, knows}
use Rattle.board_layout.specs.declared.Head.{Head}
use Rattle.board_layout.proofs.laws.Shapes.{known-exactly}
use Rattle.board_rules.specs.Findings.{Seen, order_from, Plain, noted}
use Rattle.board_rules.specs.Rules.{gap_used, out_of_order, is_prom_sig}
use Rattle.board_rules.specs.declared.walk.Findings.{Findings}
use Rattle.board_rules.proofs.laws.Findings.{seen-mark, seen-length, seen-shape, seen-finish, seen-after}
use Rattle.board_rules.proofs.laws.Walk.{fits-clear}
use Rattle.chain.proofs.laws.Below.{below}
use Rattle.chain.proofs.laws.First.{or_else-nothing}
use Rattle.kinds.specs.Signatures.{eeprom, eepr_map, brd_info, prom_sig}
use Rattle.kinds.specs.declared.Kinds.{Kinds}
use Rattle.octets.specs.Bytes.{Octets, byte}
use Rattle.octets.specs.Label.{dollar}
use Rattle.octets.specs.Runs.{nonzero}
use Rattle.octets.proofs.laws.Runs.{none-nonzero}

-- none of five holds where their disjunction does not
none : (a b c d e : Bool) → ((a || b || c || d) || e) ≡ false → (a ≡ false) × (b ≡ false) × (c ≡ false) × (d ≡ false)
none true b c d e h = absurd (false≢true (sym h))
none false true c d e h = absurd (false≢true (sym h))
none false false true d e h = absurd (false≢true (sym h))
none false false false true e h = absurd (false≢true (sym h))
none false false false false e h = (refl, refl, refl, refl)

-- a structure that has a head ends at least that far on
end-far : (s : List ℕ) (p : ℕ) → 16 ≤ length_at s p → p + 16 ≤ end_at s p
unfolding end_at
end-far s p h = omega (arith, h)

module _ (k : Kinds) (s : List ℕ) (p : ℕ) where
  -- a structure that is not known is none of the four
  others :
      knows k (shape_at s p) ≡ false →
      (eqb (signature_at s p) eeprom ≡ false) × (eqb (signature_at s p) eepr_map ≡ false)
      × (eqb (signature_at s p) brd_info ≡ false) × (eqb (signature_at s p) prom_sig ≡ false)
  unfolding shape_at
  others u = none _ _ _ _ _ (sym (known-exactly k (signature_at s p) (major_at s p)) ∙ u)

  -- so it is not out of order, and no `$PromSig`
  plain-order : knows k (shape_at s p) ≡ false → out_of_order s p ≡ None
  unfolding out_of_order
  plain-order u = let o = others u in rw (o.0, o.1, o.2, o.3)

  plain-other : knows k (shape_at s p) ≡ false → is_prom_sig s p ≡ None
  plain-other u = rw (others u).3

  plain-later : knows k (shape_at s p) ≡ false → (later : ℕ) → order_from later s p ≡ None
  unfolding order_from
  plain-later u later = go (ltb p later)
    where
      go : (b : Bool) → cond b None (out_of_order s p) ≡ None
      go true = refl
      go false = plain-order u

  -- between a structure that ends where the next one starts and that one there is no byte
  tight-gap : end_at s p ≡ next s p → gap_used s p ≡ None
  unfolding gap_used
  tight-gap e = go (eqb (end_at s p) (struct_len s))
    where
      go : (b : Bool) → cond b None (nonzero s (end_at s p) 0 (next s p - end_at s p)) ≡ None
      go true = refl
      go false = none-nonzero s (end_at s p) 0 (next s p - end_at s p) (λ i l h. absurd (omega (arith, e)))

  -- so the tests of the code make a structure plain
  pub plain-here :
      {after : ℕ} → knows k (shape_at s p) ≡ false → byte s p ≡ dollar → 16 ≤ length_at s p → after ≡ next s p → after ≤ struct_len s → end_at s p ≡ after →
      Plain k s p
  plain-here {after} u mark whole a last tight =
      record {
        placed =
            fits-clear s p
            (record {
              room = omega (arith, end-far s p whole, tight, last);
              mark = mark;
              head = whole;
              ends = omega (arith, tight, last);
              goes =
                  elim (below after (struct_len s)) [
                    | inl l ↦ inr (omega (arith, a, l))
                    | inr l ↦ inl (omega (arith, tight, l, last))
                  ];
            });
        tight = tight-gap (tight ∙ a);
        unknown = u;
      }

  -- the same of a head that was read there
  pub seen-plain :
      {end after : ℕ} {h : Head} → Seen s end p h → Octets s → knows k (shape_of h.signature h.major) ≡ false → h.signature % 256 ≡ 0x24 → 16 ≤ h.length →
      after ≡ round16 (p + covers h.length) → after ≤ end → p + h.length ≡ after → Plain k s p
  seen-plain seen octets u mark whole a last tight =
      plain-here
      (sym (ap (knows k) (seen-shape seen)) ∙ u)
      (sym (seen-mark seen octets) ∙ mark)
      (omega (arith, seen-length seen, whole))
      (a ∙ seen-after seen)
      (omega (arith, seen.all, last))
      (sym (seen-finish seen) ∙ tight)

  pub plain-noted :
      Plain k s p → (later : ℕ) (f : Findings) →
      record {
        misplaced = f.misplaced;
        gap = f.gap;
        order = f.order;
        signature = f.signature;
        rest = f.rest;
        count = f.count + 1;
      }
      ≡ noted k s later p f
  plain-noted a later f =
      rw (
        a.placed,
        a.tight,
        a.unknown,
        plain-later a.unknown later,
        plain-other a.unknown,
        or_else-nothing f.misplaced,
        or_else-nothing f.gap,
        or_else-nothing f.order,
        or_else-nothing f.signature,
      )
