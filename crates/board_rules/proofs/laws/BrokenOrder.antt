-- Rule 25 finds the smallest place where the paper's row is broken. The second and the third structure are missed where they are due, or at StructLen; the later
-- ones lie after them. A `$PromSig` that does not end at StructLen has another structure after it, by rule 23; as second or third it is missed there already, and
-- the header is none, by rule 21. Assumes nothing.
use Rattle.std.specs.Prelude.{ℕ, zero, suc, ◌+◌, ◌-◌, ◌≤◌, ◌<◌, min, Bool, not, cond, List, [], ◌∷◌, ◌⊎◌, ◌≡◌, eqb, Some, None}
use Rattle.std.proofs.Math.Bool.{true, false}
use Rattle.std.proofs.Math.Logic.{inl, inr}
use Rattle.std.proofs.Math.Path.{refl}
use Rattle.std.proofs.Common.{sym, ap, subst, ◌∙◌, arith}
use Rattle.std.proofs.Math.Dec.{ltb}
use borrow.Author.Tests.{ltb-true, ltb-false, le-ltb}
use Rattle.board_layout.specs.Layout.{signature_at, struct_len, end_at, next, structures, map_at, board_at, later_at}
use Rattle.board_layout.proofs.laws.Layout.{next-grows, end-next, structure-below}
use Rattle.board_rules.specs.Broken.{StructureAt, Broken25}
use Rattle.board_rules.specs.Rules.{rule21, rule23, expected, is_early, out_of_order, rule25}
use Rattle.board_rules.proofs.laws.BrokenPlaces.{onwards, nth-second, nth-third, nth-later, second-place, third-place, second-there, third-there}
use Rattle.board_rules.proofs.laws.Heads.{header-is}
use Rattle.board_rules.proofs.laws.Walk.{Fits, walk-fits}
use Rattle.chain.specs.Finds.{Among, Finds}
use Rattle.chain.specs.First.{or_else, when, first}
use Rattle.chain.specs.Nth.{nth}
use Rattle.chain.specs.Found.{Found}
use Rattle.chain.proofs.laws.Among.{nth-starts, among-goes}
use Rattle.chain.proofs.laws.Apart.{among-behind}
use Rattle.chain.proofs.laws.Clauses.{Clause, test, several}
use Rattle.chain.proofs.laws.Finds.{finds-as, finds-both, finds-when, finds-along}
use Rattle.chain.proofs.laws.First.{or_else-nothing, when-nothing}
use Rattle.chain.proofs.laws.Means.{Means, means-equal, means-other, means-both, means-either}
use Rattle.chain.proofs.laws.Nth.{nth-all}
use Rattle.chain.proofs.laws.Places.{chain-within}
use Rattle.kinds.specs.Signatures.{eeprom, eepr_map, brd_info, prom_sig}
use Rattle.kinds.specs.declared.Kinds.{Kinds}

module _ (s : List ℕ) where
  -- ---- the second and the third: one with signature g is due at p, and another is there, or none
  abbrev Missed : ℕ → ℕ → ℕ → Type 0
  Missed g p z = ((z ≡ p) × (p < struct_len s) × (signature_at s z ≡ g → ⊥)) ⊎ ((z ≡ struct_len s) × (struct_len s ≤ p))

  -- it is missed at p, or at StructLen if that comes first
  missed-place : (g p z : ℕ) → Missed g p z → z ≡ min p (struct_len s)
  missed-place g p z (inl h) = omega (arith, h.0, h.1)
  missed-place g p z (inr h) = omega (arith, h.0, h.1)

  -- and that is where the search finds it missed
  finds-expected : (g p : ℕ) → Finds (Missed g p) (expected s g p)
  unfolding expected
  finds-expected g p = go (ltb p (struct_len s)) refl
    where
      go : (b : Bool) → ltb p (struct_len s) ≡ b → Finds (Missed g p) (cond b (when (not (eqb (signature_at s p) g)) p) (Some (struct_len s)))
      go true d =
          finds-when (Missed g p) (not (eqb (signature_at s p) g)) p (λ e. inl (refl, ltb-true p (struct_len s) d, (means-other (signature_at s p) g).0 e))
          (λ z h.
          elim h [
            | inl x ↦ (x.0, (means-other (signature_at s p) g).1 (λ e. x.2 (ap (signature_at s) x.0 ∙ e)))
            | inr x ↦ absurd (omega (arith, x.1, ltb-true p (struct_len s) d))
          ])
      go false d = (
        inr (refl, ltb-false p (struct_len s) d),
        λ z h. omega (arith, missed-place g p z h, ltb-false p (struct_len s) d),
      )

  -- ---- the later ones
  -- a signature that only the header, the second and the third have
  abbrev Early : ℕ → Type 0
  Early g = (g ≡ eepr_map) ⊎ (g ≡ brd_info) ⊎ (g ≡ eeprom)

  means-early : (g : ℕ) → Means (is_early g) (Early g)
  means-early g =
      let m = means-either (means-either (means-equal g eepr_map) (means-equal g brd_info)) (means-equal g eeprom) in (
        λ e. elim (m.0 e) [ inl x ↦ elim x [ inl y ↦ inl y | inr y ↦ inr (inl y) ] | inr x ↦ inr (inr x) ],
        λ h. m.1 (elim h [ inl x ↦ inl (inl x) | inr x ↦ elim x [ inl y ↦ inl (inr y) | inr y ↦ inr y ] ]),
      )

  -- the clauses of one of them, at its start
  abbrev ordered : ℕ → Clause
  ordered p =
      several
      (test (λ z. Early (signature_at s z)) p (means-early (signature_at s p))
      ∷ test (λ z. (signature_at s z ≡ prom_sig) × (end_at s z ≡ struct_len s → ⊥)) p
      (means-both (means-equal (signature_at s p) prom_sig) (means-other (end_at s p) (struct_len s)))
      ∷ [])
      p (next s p) (omega (arith, next-grows s p))

  -- a later one is out of order at z
  abbrev Later : ℕ → Type 0
  Later z = (p : ℕ) × (Among (onwards s (later_at s)) p × (ordered p).broken z)

  -- it is one that starts from later_at on
  later-after : (z : ℕ) → Later z → later_at s ≤ z
  later-after z (p, (a, b)) =
      omega (
        arith,
        ((ordered p).within z b).0,
        (nth-all (λ q. (later_at s ≤ q) × (q < struct_len s)) (onwards s (later_at s)) a.0 p
            (chain-within (next s) (struct_len s) (next-grows s) (later_at s)) a.1).0,
      )

  -- the search along them finds the first such place
  finds-later : Finds Later (first (out_of_order s) (onwards s (later_at s)))
  unfolding out_of_order
  finds-later =
      finds-along (out_of_order s) (next s) (struct_len s) (next-grows s) (λ p. (ordered p).broken) (λ p. (ordered p).within) (later_at s) (λ p a. (ordered p).finds)

  -- ---- all of them, in their order
  abbrev OutOfOrder : ℕ → Type 0
  OutOfOrder z = Missed eepr_map (map_at s) z ⊎ Missed brd_info (board_at s) z ⊎ Later z

  -- the rule finds the first of their places
  finds-order : Finds OutOfOrder (rule25 s)
  unfolding rule25 later_at board_at
  finds-order =
      let l : Found = first (out_of_order s) (onwards s (later_at s)) in
      finds-both (Missed eepr_map (map_at s)) (λ z. Missed brd_info (board_at s) z ⊎ Later z) (expected s eepr_map (map_at s))
      (or_else (expected s brd_info (board_at s)) (or_else l None)) (finds-expected eepr_map (map_at s))
      (finds-both (Missed brd_info (board_at s)) Later (expected s brd_info (board_at s)) (or_else l None) (finds-expected brd_info (board_at s))
      (subst (Finds Later) (sym (or_else-nothing l)) finds-later)
      (λ y z h x. omega (arith, missed-place brd_info (board_at s) y h, later-after z x, next-grows s (board_at s))))
      (λ y z h x.
      elim x [
        | inl m ↦ omega (arith, missed-place eepr_map (map_at s) y h, missed-place brd_info (board_at s) z m, next-grows s (map_at s))
        | inr m ↦ omega (arith, missed-place eepr_map (map_at s) y h, later-after z m, next-grows s (map_at s), next-grows s (board_at s))
      ])

-- ---- rule 25
module _ (k : Kinds) (s : List ℕ) where
  -- the later ones are structures
  later-structure : (p : ℕ) → Among (onwards s (later_at s)) p → StructureAt k s p
  later-structure p a = (3 + a.0, nth-later s a.0 ∙ a.1)

  -- one that does not end at StructLen has another after it
  goes-on : rule23 s ≡ None → (p : ℕ) → StructureAt k s p → (end_at s p ≡ struct_len s → ⊥) → next s p < struct_len s
  goes-on walk p a more =
      elim (nth-all (Fits s) (structures s) a.0 p (walk-fits s walk) a.1).goes [ inl e ↦ absurd (more e) | inr l ↦ l ]

  -- what is found breaks the rule
  order-broken : rule23 s ≡ None → (z : ℕ) → OutOfOrder s z → Broken25 k s z
  order-broken walk z (inl (inl (i, there, g))) = Broken25.second_other (rw i (second-there k s there)) g
  order-broken walk z (inl (inr (i, past))) =
      Broken25.second_absent (nth-second s ∙ ap (λ (b : Bool). when b (map_at s)) (le-ltb (map_at s) (struct_len s) past)) i
  order-broken walk z (inr (inl (inl (i, there, g)))) = Broken25.third_other (rw i (third-there k s there)) g
  order-broken walk z (inr (inl (inr (i, past)))) =
      Broken25.third_absent (nth-third s ∙ ap (λ (b : Bool). when b (board_at s)) (le-ltb (board_at s) (struct_len s) past)) i
  order-broken walk z (inr (inr (p, (a, inl (i, early))))) =
      Broken25.later_again (3 + a.0) (omega arith) (nth-later s a.0 ∙ a.1 ∙ ap Some (sym i)) early
  order-broken walk z (inr (inr (p, (a, inr (inl (i, (g, more))))))) =
      let b : StructureAt k s z = subst (StructureAt k s) (sym i) (later-structure p a) in
      Broken25.prom_sig_not_last (b, g) (next s z) (among-goes (next s) (struct_len s) (next-grows s) 0 z b (goes-on walk z b more)) (next-grows s z)
  order-broken walk z (inr (inr (p, (a, inr (inr h))))) = absurd h

  -- a `$PromSig` that is not last is out of order
  prom-sig-early : rule21 s ≡ None → (i q p : ℕ) → nth (structures s) i ≡ Some q → signature_at s q ≡ prom_sig → StructureAt k s p → q < p → OutOfOrder s q
  prom-sig-early head zero q p e g b l =
      absurd (omega (arith, g, (header-is s head).0, ap (signature_at s) (nth-starts (next s) (struct_len s) (next-grows s) 0 q e)))
  prom-sig-early head (suc zero) q p e g b l =
      let w = second-place k s q e in inl (inl (w.0, w.1, λ d. omega (arith, g, d)))
  prom-sig-early head (suc (suc zero)) q p e g b l =
      let w = third-place k s q e in inr (inl (inl (w.0, w.1, λ d. omega (arith, g, d))))
  prom-sig-early head (suc (suc (suc i))) q p e g b l =
      inr (inr (q, ((i, sym (nth-later s i) ∙ ap (nth (structures s)) (omega arith) ∙ e), inr (inl (refl, (g, not-last))))))
    where
      not-last : end_at s q ≡ struct_len s → ⊥
      not-last d =
          omega (arith, d, end-next s q, among-behind (next s) (struct_len s) (next-grows s) 0 q p (suc (suc (suc i)), e) b l, structure-below s b.0 p b.1)

  -- and what breaks the rule is out of order
  broken-order : rule21 s ≡ None → (z : ℕ) → Broken25 k s z → OutOfOrder s z
  broken-order head z (Broken25.second_other e n) =
      let w = second-place k s z e in inl (inl (w.0, w.1, n))
  broken-order head z (Broken25.second_absent e i) =
      inl (inr (i, ltb-false (map_at s) (struct_len s) (when-nothing (ltb (map_at s) (struct_len s)) (map_at s) (sym (nth-second s) ∙ e))))
  broken-order head z (Broken25.third_other e n) =
      let w = third-place k s z e in inr (inl (inl (w.0, w.1, n)))
  broken-order head z (Broken25.third_absent e i) =
      inr (inl (inr (i, ltb-false (board_at s) (struct_len s) (when-nothing (ltb (board_at s) (struct_len s)) (board_at s) (sym (nth-third s) ∙ e)))))
  broken-order head z (Broken25.later_again i h e early) =
      inr (inr (z, ((i - 3, sym (nth-later s (i - 3)) ∙ ap (nth (structures s)) (omega arith) ∙ e), inl (refl, early))))
  broken-order head z (Broken25.prom_sig_not_last a p b h) = prom-sig-early head a.0.0 z p a.0.1 a.1 b h

  -- so the two are the same places
  pub finds25 : rule21 s ≡ None → rule23 s ≡ None → Finds (Broken25 k s) (rule25 s)
  finds25 head walk = finds-as (OutOfOrder s) (Broken25 k s) (order-broken walk) (broken-order head) (rule25 s) (finds-order s)
