-- Rules 29, 30, 34 and 31 find the smallest place where they are broken. By rules 21 and 25 the structures that they speak of are those that the searches look into;
-- in each the clauses stand in ascending order of place, and the map's records follow its fields. The records before another are those of smaller numbers.
-- Assumes nothing.
use Prim.Native.Nat.{ℕ, ◌+◌, ◌*◌, ◌≤◌, ◌<◌}
use Rattle.std.specs.Prelude.{Bool, true, false, not, cond, List, [], ◌∷◌, ◌⊎◌, ◌↔◌, ◌≡◌, refl, eqb, ltb, leb, Some, None}
use Rattle.std.proofs.Common.{true≢false, sym, ◌∙◌}
use Rattle.std.proofs.Math.Logic.{inl, inr}
use native.Mathlib.Omega.{arith}
use Rattle.board_fields.specs.Hash.{hash_size, is_signed, hash_type, is_signable, bad_hash_of, bad_hash}
use Rattle.board_fields.specs.Map.{bad_map_field, bad_map, bad_board_type}
use Rattle.board_layout.specs.Layout.{length_at, struct_len, end_at, map_at, board_at, records, map_count}
use Rattle.board_layout.specs.Places.{HashType, EepromSig, PartLabel, BlkLength, PartSize, Master, Speed, MapData, MapLabel, MapLength, MapOffset, Address, map_record_size, BoardType}
use Rattle.board_layout.specs.declared.Records.TheVariants.{Map}
use Rattle.board_records.specs.Records.{map_number, bad_map_record, earlier, same_label, repeated_label}
use Rattle.board_rules.specs.Broken.{Second, Third, PromSigAt, Broken29, Broken30, Broken31, Broken34}
use Rattle.board_rules.specs.Rules.{rule21, rule25, rule29, rule30, rule31, rule34}
use Rattle.board_rules.proofs.laws.BrokenPlaces.{second-is, third-is, finds-on-prom-sig}
use Rattle.board_rules.proofs.laws.BrokenRecords.{record-after, InRecord, finds-records}
use Rattle.chain.specs.Chain.{ahead}
use Rattle.chain.specs.Finds.{Among, Finds}
use Rattle.chain.specs.First.{first, when}
use Rattle.chain.specs.Nth.{nth}
use Rattle.chain.proofs.laws.Among.{nth-before}
use Rattle.chain.proofs.laws.Clauses.{Clause, test, over, under, other, several}
use Rattle.chain.proofs.laws.Finds.{finds-as, finds-one, finds-some, finds-both}
use Rattle.chain.proofs.laws.First.{when-place}
use Rattle.chain.proofs.laws.Means.{means-above, means-false, Means, means-equal, means-under, means-other, means-both}
use Rattle.chain.proofs.laws.Steps.{ahead-grows, steps-place}
use Rattle.kinds.specs.declared.Kinds.{Kinds}
use Rattle.octets.specs.Bytes.{byte, le16, le32}
use Rattle.octets.specs.Label.{label}
use Rattle.octets.proofs.laws.LabelBad.{of_label}
use Rattle.octets.proofs.laws.Runs.{means-same-run}

-- ---- what is asked of one structure
-- a Length that does not fit: by the signed flag, not e, or under e
means-unfit : (b : Bool) (n e : ℕ) → Means (not (cond b (leb e n) (eqb n e))) (((b ≡ false) × (n ≡ e → ⊥)) ⊎ ((b ≡ true) × (n < e)))
means-unfit true n e = (
  λ t. inr (refl, (means-above n e).0 t),
  λ x. elim x [ inl y ↦ absurd (true≢false y.0) | inr y ↦ (means-above n e).1 y.1 ],
)
means-unfit false n e = (
  λ t. inl (refl, (means-other n e).0 t),
  λ x. elim x [ inl y ↦ (means-other n e).1 y.1 | inr y ↦ absurd (true≢false (sym y.0)) ],
)

module _ (s : List ℕ) where
  -- the signed flag in the HashType at z, on a type other than 1 to 3
  abbrev SignedOther : ℕ → Type 0
  SignedOther z = (is_signed (le16 s z) ≡ true) × (is_signable (hash_type (le16 s z)) ≡ false)

  -- the Length of the structure at p does not fit it
  abbrev Unfit : ℕ → ℕ → Type 0
  Unfit p z =
      let e : ℕ = EepromSig + hash_size (hash_type (le16 s z)) in
      ((is_signed (le16 s z) ≡ false) × (length_at s p ≡ e → ⊥)) ⊎ ((is_signed (le16 s z) ≡ true) × (length_at s p < e))

  -- the clauses of a `$PromSig`, all at its HashType
  abbrev hash_at : ℕ → Clause
  hash_at p =
      let q : ℕ = p + HashType in
      let h : ℕ = le16 s q in
      several
      (test (λ z. 5 < hash_type (le16 s z)) q (means-under 5 (hash_type h))
      ∷ test SignedOther q (means-both (λ e. e, λ e. e) (means-false (is_signable (hash_type h))))
      ∷ test (Unfit p) q (means-unfit (is_signed h) (length_at s p) (EepromSig + hash_size (hash_type h)))
      ∷ [])
      q q (omega arith, (omega arith, (omega arith, omega arith)))

  finds-hash : (p : ℕ) → Finds (hash_at p).broken (bad_hash s p)
  unfolding bad_hash bad_hash_of
  finds-hash p = (hash_at p).finds

  -- the clauses of the map's fields
  abbrev map_fields : ℕ → Clause
  map_fields m =
      several
      (of_label s (m + PartLabel)
      ∷ test (λ z. le32 s z ≡ 0) (m + BlkLength) (means-equal (le32 s (m + BlkLength)) 0)
      ∷ other (le32 s) (map_count s m * le32 s (m + BlkLength)) (m + PartSize)
      ∷ under (le32 s) (struct_len s) (m + PartSize)
      ∷ over (byte s) 1 (m + Master)
      ∷ over (byte s) 3 (m + Speed)
      ∷ [])
      m (m + Speed) (omega arith, (omega arith, (omega arith, (omega arith, (omega arith, (omega arith, omega arith))))))

  finds-map-fields : (m : ℕ) → Finds (map_fields m).broken (bad_map_field s m)
  unfolding bad_map_field
  finds-map-fields m = (map_fields m).finds

  -- those of a record
  abbrev map_record : ℕ → ℕ → Clause
  map_record m r =
      several
      (of_label s (r + MapLabel)
      ∷ other (le32 s) map_record_size (r + MapLength)
      ∷ other (le32 s) (map_number m r * le32 s (m + BlkLength)) (r + MapOffset)
      ∷ over (byte s) 0x7F (r + Address)
      ∷ [])
      r (r + Address) (omega arith, (omega arith, (omega arith, (omega arith, omega arith))))

  finds-map-record : (m r : ℕ) → Finds (map_record m r).broken (bad_map_record s m r)
  unfolding bad_map_record
  finds-map-record m r = (map_record m r).finds

  -- the fields, and then the records
  abbrev InMap : ℕ → ℕ → Type 0
  InMap m z = (map_fields m).broken z ⊎ InRecord Map s m (λ r. (map_record m r).broken) z

  finds-map : (m : ℕ) → Finds (InMap m) (bad_map s m)
  unfolding bad_map
  finds-map m =
      finds-both (map_fields m).broken (InRecord Map s m (λ r. (map_record m r).broken)) (bad_map_field s m) (first (bad_map_record s m) (records Map s m))
      (finds-map-fields m) (finds-records Map s m (bad_map_record s m) (λ r. (map_record m r).broken) own (λ r a. finds-map-record m r))
      (λ y z b x. omega (arith, ((map_fields m).within y b).1, record-after Map s m x.0 x.1.0, (own x.0 z x.1.1).0))
    where
      own : (r z : ℕ) → (map_record m r).broken z → (r ≤ z) × (z ≤ r + map_record_size)
      own r z b = let w = (map_record m r).within z b in (w.0, omega (arith, w.1))

  -- the number by which a record's place is told is its number
  record-number : (m j r : ℕ) → nth (records Map s m) j ≡ Some r → map_number m r ≡ j
  unfolding records
  record-number m j r e =
      let q : ℕ = m + MapData + j * map_record_size in
      let d : q ≡ r = when-place (ltb q (end_at s m)) q r (sym (steps-place map_record_size (omega arith) j (m + MapData) (end_at s m)) ∙ e) in
      omega arith

  -- the label of the record at r equals that of a record before it
  abbrev Repeated : ℕ → ℕ → ℕ → Type 0
  Repeated m r z = (z ≡ r + MapLabel) × ((e : ℕ) × (Among (earlier m r) e × (label s (e + MapLabel) ≡ label s (r + MapLabel))))

  finds-repeated : (m r : ℕ) → Finds (Repeated m r) (repeated_label s m r)
  unfolding repeated_label
  finds-repeated m r =
      finds-as Tested (Repeated m r) (λ z h. (h.0, (h.1.0, (h.1.1.0, (means h.1.0).0 h.1.1.1))))
      (λ z h. (h.0, (h.1.0, (h.1.1.0, (means h.1.0).1 h.1.1.1)))) (first (λ e. when (same_label s e r) (r + MapLabel)) (earlier m r))
      (finds-some (λ e. same_label s e r) (r + MapLabel) (earlier m r))
    where
      Tested : ℕ → Type 0
      Tested z = (z ≡ r + MapLabel) × ((e : ℕ) × (Among (earlier m r) e × (same_label s e r ≡ true)))

      means : (e : ℕ) → Means (same_label s e r) (label s (e + MapLabel) ≡ label s (r + MapLabel))
      means e = means-same-run s (e + MapLabel) s (r + MapLabel) 16

  -- the records before record j are those of smaller numbers
  record-before : (m j r i e : ℕ) → nth (records Map s m) j ≡ Some r → (nth (earlier m r) i ≡ Some e) ↔ ((i < j) × (nth (records Map s m) i ≡ Some e))
  unfolding records
  record-before m j r i e = nth-before (ahead map_record_size) (ahead-grows map_record_size (omega arith)) (end_at s m) j (m + MapData) r i e

module _ (k : Kinds) (s : List ℕ) where
  -- ---- 29: a `$PromSig` is broken at z
  abbrev HashBroken : ℕ → Type 0
  HashBroken z = (p : ℕ) × (PromSigAt k s p × (hash_at s p).broken z)

  pub finds29 : rule21 s ≡ None → rule25 s ≡ None → Finds (Broken29 k s) (rule29 s)
  unfolding rule29
  finds29 head order =
      finds-as HashBroken (Broken29 k s) to back (rule29 s)
      (finds-on-prom-sig k s head order (bad_hash s) (λ p. (hash_at s p).broken) (finds-hash s))
    where
      to : (z : ℕ) → HashBroken z → Broken29 k s z
      to z (p, (a, inl (place, b))) = Broken29.hash_type_over5 p a place b
      to z (p, (a, inr (inl (place, (signed, b))))) = Broken29.signed_other p a place signed b
      to z (p, (a, inr (inr (inl (place, inl (signed, b)))))) = Broken29.hash_length p a place signed b
      to z (p, (a, inr (inr (inl (place, inr (signed, b)))))) = Broken29.signed_length p a place signed b
      to z (p, (a, inr (inr (inr b)))) = absurd b

      back : (z : ℕ) → Broken29 k s z → HashBroken z
      back z (Broken29.hash_type_over5 p a place b) = (p, (a, inl (place, b)))
      back z (Broken29.signed_other p a place signed b) = (p, (a, inr (inl (place, (signed, b)))))
      back z (Broken29.hash_length p a place signed b) = (p, (a, inr (inr (inl (place, inl (signed, b))))))
      back z (Broken29.signed_length p a place signed b) = (p, (a, inr (inr (inl (place, inr (signed, b))))))

  -- ---- 30: the second structure is
  abbrev MapBroken : ℕ → Type 0
  MapBroken z = (m : ℕ) × (Second k s m × InMap s m z)

  pub finds30 : rule25 s ≡ None → Finds (Broken30 k s) (rule30 s)
  unfolding rule30
  finds30 order =
      finds-as MapBroken (Broken30 k s) to back (rule30 s)
      (finds-one (Second k s) (map_at s) (second-is k s order) (InMap s) (rule30 s) (finds-map s (map_at s)))
    where
      to : (z : ℕ) → MapBroken z → Broken30 k s z
      to z (m, (e, inl (inl b))) = Broken30.part_label m e b
      to z (m, (e, inl (inr (inl (place, b))))) = Broken30.blk_length_zero m e place b
      to z (m, (e, inl (inr (inr (inl (place, b)))))) = Broken30.part_size_other m e place b
      to z (m, (e, inl (inr (inr (inr (inl (place, b))))))) = Broken30.part_size_below m e place b
      to z (m, (e, inl (inr (inr (inr (inr (inl (place, b)))))))) = Broken30.master_over1 m e place b
      to z (m, (e, inl (inr (inr (inr (inr (inr (inl (place, b))))))))) = Broken30.speed_over3 m e place b
      to z (m, (e, inl (inr (inr (inr (inr (inr (inr b)))))))) = absurd b
      to z (m, (e, inr (r, (a, inl b)))) = Broken30.record_label m r e a b
      to z (m, (e, inr (r, (a, inr (inl (place, b)))))) = Broken30.record_length m r e a place b
      to z (m, (e, inr (r, ((j, a), inr (inr (inl (place, b))))))) =
          Broken30.record_offset m j r e a place (rw (record-number s m j r a) at b)
      to z (m, (e, inr (r, (a, inr (inr (inr (inl (place, b)))))))) = Broken30.address_over7_f m r e a place b
      to z (m, (e, inr (r, (a, inr (inr (inr (inr b))))))) = absurd b

      back : (z : ℕ) → Broken30 k s z → MapBroken z
      back z (Broken30.part_label m e b) = (m, (e, inl (inl b)))
      back z (Broken30.record_label m r e a b) = (m, (e, inr (r, (a, inl b))))
      back z (Broken30.blk_length_zero m e place b) = (m, (e, inl (inr (inl (place, b)))))
      back z (Broken30.part_size_other m e place b) = (m, (e, inl (inr (inr (inl (place, b))))))
      back z (Broken30.part_size_below m e place b) = (m, (e, inl (inr (inr (inr (inl (place, b)))))))
      back z (Broken30.master_over1 m e place b) = (m, (e, inl (inr (inr (inr (inr (inl (place, b))))))))
      back z (Broken30.speed_over3 m e place b) = (m, (e, inl (inr (inr (inr (inr (inr (inl (place, b)))))))))
      back z (Broken30.record_length m r e a place b) = (m, (e, inr (r, (a, inr (inl (place, b))))))
      back z (Broken30.record_offset m j r e a place b) =
          (m, (e, inr (r, ((j, a), inr (inr (inl (place, rw (record-number s m j r a) b)))))))
      back z (Broken30.address_over7_f m r e a place b) = (m, (e, inr (r, (a, inr (inr (inr (inl (place, b))))))))

  -- ---- 34: a record of the second structure has the label of one before it
  abbrev LabelBroken : ℕ → Type 0
  LabelBroken z = (m : ℕ) × (Second k s m × InRecord Map s m (Repeated s m) z)

  pub finds34 : rule25 s ≡ None → Finds (Broken34 k s) (rule34 s)
  unfolding rule34
  finds34 order =
      finds-as LabelBroken (Broken34 k s) to back (rule34 s)
      (finds-one (Second k s) (map_at s) (second-is k s order) (λ m. InRecord Map s m (Repeated s m)) (rule34 s)
      (finds-records Map s (map_at s) (repeated_label s (map_at s)) (Repeated s (map_at s)) (λ r z b. (omega (arith, b.0), omega (arith, b.0))) (λ r a. finds-repeated s (map_at s) r)))
    where
      to : (z : ℕ) → LabelBroken z → Broken34 k s z
      to z (m, (second, (r, ((j, a), (place, (e, ((i, b), same))))))) =
          let before = (record-before s m j r i e a).0 b in
          Broken34.label_repeated m i j e r second before.1 a before.0 same place

      back : (z : ℕ) → Broken34 k s z → LabelBroken z
      back z (Broken34.label_repeated m i j e r second b a less same place) =
          (m, (second, (r, ((j, a), (place, (e, ((i, (record-before s m j r i e a).1 (less, b)), same)))))))

  -- ---- 31: the third is
  abbrev BoardBroken : ℕ → Type 0
  BoardBroken z = (p : ℕ) × (Third k s p × (over (byte s) 1 (p + BoardType)).broken z)

  pub finds31 : rule25 s ≡ None → Finds (Broken31 k s) (rule31 s)
  unfolding rule31 bad_board_type
  finds31 order =
      finds-as BoardBroken (Broken31 k s) to back (rule31 s)
      (finds-one (Third k s) (board_at s) (third-is k s order) (λ p. (over (byte s) 1 (p + BoardType)).broken) (rule31 s)
      (over (byte s) 1 (board_at s + BoardType)).finds)
    where
      to : (z : ℕ) → BoardBroken z → Broken31 k s z
      to z (p, (e, (place, b))) = Broken31.board_type_over1 p e place b

      back : (z : ℕ) → Broken31 k s z → BoardBroken z
      back z (Broken31.board_type_over1 p e place b) = (p, (e, (place, b)))
