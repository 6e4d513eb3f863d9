-- Rules 26 and 28 find the smallest place where the paper's rows are broken. By rules 21 and 25, which come first, the second and the third structure are map and
-- board, and the one `$PromSig` lies after them; each head is bad at its structure's start. Assumes nothing.
use Rattle.std.specs.Prelude.{ℕ, ◌+◌, ◌-◌, ◌*◌, ◌/◌, ◌%◌, ◌≤◌, ◌<◌, true, not, List, [], ◌∷◌, ◌⊎◌, ◌≡◌, refl, ltb, None}
use Rattle.std.proofs.Math.Logic.{inl, inr}
use Rattle.std.proofs.Common.{sym, subst, arith}
use Rattle.board_fields.specs.Heads.{map_length_fits, bad_map_head, bad_board_head, bad_prom_sig_head}
use Rattle.board_layout.specs.Layout.{major_at, length_at, end_at, structures, map_at, board_at, later_at}
use Rattle.board_layout.specs.Places.{MapData, map_record_size, EepromSig}
use Rattle.board_layout.proofs.laws.Layout.{next-grows}
use Rattle.board_rules.specs.Broken.{PromSigAt, Broken26, Broken28}
use Rattle.board_rules.specs.Rules.{rule21, rule25, prom_sig_at, on_found, rule26, rule28}
use Rattle.board_rules.proofs.laws.BrokenPlaces.{second-is, third-is, finds-on-prom-sig}
use Rattle.board_rules.proofs.laws.Heads.{Last, prom-sig-last}
use Rattle.chain.specs.Finds.{Finds}
use Rattle.chain.specs.First.{or_else}
use Rattle.chain.specs.Found.{Found}
use Rattle.chain.proofs.laws.Clauses.{Clause, test, under, other, several}
use Rattle.chain.proofs.laws.Finds.{finds-as, finds-when, finds-both}
use Rattle.chain.proofs.laws.First.{or_else-nothing}
use Rattle.chain.proofs.laws.Means.{Means, means-under, means-equal, means-most, means-not, means-both}
use Rattle.chain.proofs.laws.Nth.{nth-all}
use Rattle.kinds.specs.declared.Kinds.{Kinds}

-- ---- a map's Length that is not 30h + 20h n, n at least 1
abbrev NotWhole : ℕ → Type 0
NotWhole l = (n : ℕ) → 1 ≤ n → l ≡ 0x30 + 0x20 * n → ⊥

-- the test says so
means-not-whole : (l : ℕ) → Means (not (map_length_fits l)) (NotWhole l)
means-not-whole l = (λ e n h d. m.0 e (omega arith, omega arith), λ h. m.1 (λ w. h ((l - MapData) / map_record_size) (omega (arith, w.0)) (omega (arith, w.0, w.1))))
  where
    m : Means (not (map_length_fits l)) ((MapData + map_record_size ≤ l) × ((l - MapData) % map_record_size ≡ 0) → ⊥)
    m = means-not (means-both (means-most (MapData + map_record_size) l) (means-equal ((l - MapData) % map_record_size) 0))

module _ (s : List ℕ) where
  -- ---- the head of one structure: the map's, the board's and that of a `$PromSig`
  abbrev map_head : ℕ → Clause
  map_head p =
      several (other (major_at s) 1 p ∷ test (λ z. NotWhole (length_at s z)) p (means-not-whole (length_at s p)) ∷ []) p p (omega arith)

  finds-map-head : (p : ℕ) → Finds (map_head p).broken (bad_map_head s p)
  unfolding bad_map_head
  finds-map-head p = (map_head p).finds

  abbrev board_head : ℕ → Clause
  board_head p = several (other (major_at s) 1 p ∷ other (length_at s) 0x60 p ∷ []) p p (omega arith)

  finds-board-head : (p : ℕ) → Finds (board_head p).broken (bad_board_head s p)
  unfolding bad_board_head
  finds-board-head p = (board_head p).finds

  abbrev prom_sig_head : ℕ → Clause
  prom_sig_head p = several (other (major_at s) 1 p ∷ under (length_at s) EepromSig p ∷ []) p p (omega arith)

  finds-prom-sig-head : (p : ℕ) → Finds (prom_sig_head p).broken (bad_prom_sig_head s p)
  unfolding bad_prom_sig_head
  finds-prom-sig-head p = (prom_sig_head p).finds

module _ (k : Kinds) (s : List ℕ) where
  -- ---- rule 26: map, board and `$PromSig`, in this order
  -- a `$PromSig` has a bad head at z
  abbrev PromSigBad : ℕ → Type 0
  PromSigBad z = (p : ℕ) × (PromSigAt k s p × (prom_sig_head s p).broken z)

  -- one of the three has
  abbrev HeadBad : ℕ → Type 0
  HeadBad z = (map_head s (map_at s)).broken z ⊎ (board_head s (board_at s)).broken z ⊎ PromSigBad z

  -- it lies after the board
  prom-sig-after : rule21 s ≡ None → rule25 s ≡ None → (z : ℕ) → PromSigBad z → later_at s ≤ z
  prom-sig-after head order z (p, (a, b)) =
      omega (
        arith,
        ((prom_sig_head s p).within z b).0,
        (nth-all (Last s) (structures s) a.0.0 p (prom-sig-last s head order) a.0.1 a.1).0,
      )

  -- the rule finds the first of their places
  finds-heads : rule21 s ≡ None → rule25 s ≡ None → Finds HeadBad (rule26 s)
  unfolding rule26 later_at board_at
  finds-heads head order =
      let m : Clause = map_head s (map_at s) in
      let b : Clause = board_head s (board_at s) in
      let f : Found = on_found (bad_prom_sig_head s) (prom_sig_at s) in
      finds-both m.broken (λ z. b.broken z ⊎ PromSigBad z) (bad_map_head s (map_at s)) (or_else (bad_board_head s (board_at s)) (or_else f None))
      (finds-map-head s (map_at s))
      (finds-both b.broken PromSigBad (bad_board_head s (board_at s)) (or_else f None) (finds-board-head s (board_at s))
      (subst (Finds PromSigBad) (sym (or_else-nothing f))
      (finds-on-prom-sig k s head order (bad_prom_sig_head s) (λ p. (prom_sig_head s p).broken) (finds-prom-sig-head s)))
      (λ y z h x. omega (arith, (b.within y h).1, prom-sig-after head order z x, next-grows s (board_at s))))
      (λ y z h x.
      elim x [
        | inl c ↦ omega (arith, (m.within y h).1, (b.within z c).0, next-grows s (map_at s))
        | inr c ↦ omega (arith, (m.within y h).1, prom-sig-after head order z c, next-grows s (map_at s), next-grows s (board_at s))
      ])

  pub finds26 : rule21 s ≡ None → rule25 s ≡ None → Finds (Broken26 k s) (rule26 s)
  finds26 head order = finds-as HeadBad (Broken26 k s) to back (rule26 s) (finds-heads head order)
    where
      to : (z : ℕ) → HeadBad z → Broken26 k s z
      to z (inl (inl (i, h))) = Broken26.map_major ((second-is k s order z).1 i) h
      to z (inl (inr (inl (i, h)))) = Broken26.map_length ((second-is k s order z).1 i) h
      to z (inl (inr (inr h))) = absurd h
      to z (inr (inl (inl (i, h)))) = Broken26.board_major ((third-is k s order z).1 i) h
      to z (inr (inl (inr (inl (i, h))))) = Broken26.board_length ((third-is k s order z).1 i) h
      to z (inr (inl (inr (inr h)))) = absurd h
      to z (inr (inr (p, (a, inl (i, h))))) = Broken26.prom_sig_major (subst (PromSigAt k s) (sym i) a) h
      to z (inr (inr (p, (a, inr (inl (i, h)))))) = Broken26.prom_sig_length (subst (PromSigAt k s) (sym i) a) h
      to z (inr (inr (p, (a, inr (inr h))))) = absurd h

      back : (z : ℕ) → Broken26 k s z → HeadBad z
      back z (Broken26.map_major e h) = inl (inl ((second-is k s order z).0 e, h))
      back z (Broken26.board_major e h) = inr (inl (inl ((third-is k s order z).0 e, h)))
      back z (Broken26.prom_sig_major a h) = inr (inr (z, (a, inl (refl, h))))
      back z (Broken26.board_length e h) = inr (inl (inr (inl ((third-is k s order z).0 e, h))))
      back z (Broken26.map_length e h) = inl (inr (inl ((second-is k s order z).0 e, h)))
      back z (Broken26.prom_sig_length a h) = inr (inr (z, (a, inr (inl (refl, h)))))

  -- ---- rule 28: the board's start
  pub finds28 : rule25 s ≡ None → Finds (Broken28 k s) (rule28 s)
  unfolding rule28
  finds28 order =
      let m = means-under 4096 (end_at s (board_at s)) in
      finds-when (Broken28 k s) (ltb 4096 (end_at s (board_at s))) (board_at s) (λ e. Broken28.board_past4096 ((third-is k s order (board_at s)).1 refl) (m.0 e)) back
    where
      back : (z : ℕ) → Broken28 k s z → (z ≡ board_at s) × (ltb 4096 (end_at s (board_at s)) ≡ true)
      back z (Broken28.board_past4096 e h) =
          let i = (third-is k s order z).0 e in (i, (means-under 4096 (end_at s (board_at s))).1 (subst (λ (p : ℕ). 4096 < end_at s p) i h))
