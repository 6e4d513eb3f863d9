-- Rules 1 to 5 find the smallest place at which their row of the paper's table is broken. Each looks at one place. Assumes nothing.
use Prim.Native.Nat.{ℕ}
use Rattle.std.specs.Prelude.{not, ◌||◌, List, ◌≡◌, eqb, length, take}
use Rattle.std.proofs.Math.Logic.{inl, inr}
use Rattle.std.proofs.Math.Path.{refl}
use Rattle.std.proofs.Common.{subst}
use Rattle.std.proofs.Math.Dec.{ltb}
use Rattle.chain.specs.Finds.{Finds}
use Rattle.chain.proofs.laws.Finds.{finds-when}
use Rattle.chain.proofs.laws.Means.{means-under, means-other, means-either}
use Rattle.crc.specs.Crc8.{crc8}
use Rattle.kinds.specs.declared.Kinds.{Kinds}
use Rattle.octets.specs.Bytes.{byte}
use Rattle.tiny_layout.specs.Layout.{total, check_place}
use Rattle.tiny_rules.specs.Broken.{Broken1, under_four_lent, Broken2, wrong_magic, Broken3, wrong_version, Broken4, total_below_four, total_above_lent, Broken5, wrong_check}
use Rattle.tiny_rules.specs.Rules.{rule1, rule2, rule3, rule4, rule5}

module _ (k : Kinds) (s : List ℕ) where
  -- 1: under 4 bytes lent
  pub finds1 : Finds (Broken1 k s) (rule1 s)
  unfolding rule1
  finds1 =
      let m = means-under (length s) 4 in
      finds-when (Broken1 k s) (ltb (length s) 4) 0 (λ e. under_four_lent refl (m.0 e)) (λ z b. elim b [ under_four_lent at h ↦ (at, m.1 h) ])

  -- 2: magic
  pub finds2 : Finds (Broken2 k s) (rule2 s)
  unfolding rule2
  finds2 =
      let m = means-other (byte s 0) 0x56 in
      finds-when (Broken2 k s) (not (eqb (byte s 0) 0x56)) 0 (λ e. wrong_magic refl (m.0 e)) (λ z b. elim b [ wrong_magic at h ↦ (at, m.1 h) ])

  -- 3: version
  pub finds3 : Finds (Broken3 k s) (rule3 s)
  unfolding rule3
  finds3 =
      let m = means-other (byte s 1) 0x02 in
      finds-when (Broken3 k s) (not (eqb (byte s 1) 0x02)) 1 (λ e. wrong_version refl (m.0 e)) (λ z b. elim b [ wrong_version at h ↦ (at, m.1 h) ])

  -- 4: L below 4 or above what is lent
  pub finds4 : Finds (Broken4 k s) (rule4 s)
  unfolding rule4
  finds4 =
      let m = means-either (means-under (total s) 4) (means-under (length s) (total s)) in
      finds-when (Broken4 k s) (ltb (total s) 4 || ltb (length s) (total s)) 2
      (λ e. elim (m.0 e) [ inl h ↦ total_below_four refl h | inr h ↦ total_above_lent refl h ])
      (λ z b. elim b [ total_below_four at h ↦ (at, m.1 (inl h)) | total_above_lent at h ↦ (at, m.1 (inr h)) ])

  -- 5: CRC-8
  pub finds5 : Finds (Broken5 k s) (rule5 s)
  unfolding rule5
  finds5 =
      let c : ℕ = check_place s in
      let m = means-other (byte s c) (crc8 (take c s)) in
      finds-when (Broken5 k s) (not (eqb (byte s c) (crc8 (take c s)))) c (λ e. wrong_check refl (m.0 e))
      (λ z b. elim b [ wrong_check at h ↦ (at, m.1 (subst (λ (q : ℕ). byte s q ≡ crc8 (take q s) → ⊥) at h)) ])
