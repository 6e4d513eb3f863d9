-- Between which bounds the judge's answers lie. By the paper's table: rules 20 and 22 keep StructLen to 65,536, rule 23 each structure within StructLen, and
-- rule 26 the map's records within the map. Assumes nothing.
use Rattle.std.specs.Prelude.{ℕ, ◌+◌, ◌-◌, ◌%◌, ◌≤◌, List, ◌≡◌, refl, length, Ok}
use Rattle.std.proofs.Math.Logic.{inl, inr}
use Rattle.std.proofs.Common.{arith}
use Rattle.board_layout.specs.Layout.{length_at, struct_len, end_at, round16, next, records}
use Rattle.board_layout.specs.Places.{head_size, StructLen, MapData, map_record_size}
use Rattle.board_layout.specs.declared.Records.TheVariants.{Map}
use Rattle.board_layout.proofs.laws.Layout.{next-grows, next-round, structure-below}
use Rattle.board_layout.proofs.laws.Records.{records-fit}
use Rattle.board_rules.specs.Broken.{StructureAt, Second, DueAt, GpioRecordAt, Broken20, Broken21, Broken22, Broken23, Broken24, Broken25, Broken26, Broken27, Broken28, Broken29, Broken30, Broken31, Broken32, Broken33, Broken34, table}
use Rattle.board_rules.specs.Judged.{judged}
use Rattle.board_rules.proofs.laws.Accepted.{accepted-count, lent-within, struct-len-within}
use Rattle.board_rules.proofs.laws.Table.{refused-exactly}
use Rattle.chain.specs.Finds.{Among, Smallest, Nowhere}
use Rattle.chain.proofs.laws.Below.{below}
use Rattle.chain.proofs.laws.Nth.{nth-all}
use Rattle.chain.proofs.laws.Places.{count-bound}
use Rattle.kinds.specs.declared.Kinds.{Kinds}
use Rattle.verdict.specs.Verdict.{refusal}
use Rattle.verdict.proofs.laws.Bounds.{Bounded, row, first-within}

module _ (k : Kinds) (s : List ℕ) where
  -- rules 20 and 22 are not broken: StructLen is at most 65,536
  struct-len-most : Nowhere (Broken20 k s) → Nowhere (Broken22 k s) → struct_len s ≤ 65536
  struct-len-most lent len =
      elim (below 65536 (length s)) [
        | inl h ↦ absurd (lent 0 (Broken20.too_many_lent refl h))
        | inr h ↦ elim (below (length s) (struct_len s)) [
          | inl l ↦ absurd (len StructLen (Broken22.struct_len_above refl l))
          | inr l ↦ omega arith
        ]
      ]

  module _ (most : struct_len s ≤ 65536) where
    -- ---- rules 23 to 25
    -- a structure starts before StructLen
    start-most : (p : ℕ) → StructureAt k s p → p ≤ 65536
    start-most p a = omega (arith, structure-below s a.0 p a.1)

    -- and where it does not break rule 23, ends there
    end-most : (p : ℕ) → StructureAt k s p → (Broken23 k s p → ⊥) → end_at s p ≤ 65536
    end-most p a kept =
        elim (below (struct_len s) (end_at s p)) [ inl h ↦ absurd (kept (Broken23.end_past (inl a) h)) | inr h ↦ omega arith ]

    -- so another is due at 65,536 at the latest
    next-most : (p : ℕ) → StructureAt k s p → (Broken23 k s p → ⊥) → next s p ≤ 65536
    unfolding round16
    next-most p a kept =
        elim (below (length_at s p) head_size) [
          | inl h ↦ absurd (kept (Broken23.length_under (inl a) h))
          | inr h ↦ omega (arith, end-most p a kept, next-round s p h)
        ]

    -- the first misplaced structure: where it is due after another, that one is not misplaced
    due-most : (q : ℕ) → Smallest (Broken23 k s) q → DueAt k s q → q ≤ 65536
    due-most q b (inl a) = start-most q a
    due-most q b (inr (r, (a, more, i))) = omega (arith, next-most r a (λ c. omega (arith, b.1 r c, next-grows s r)))

    misplaced-most : (q : ℕ) → Smallest (Broken23 k s) q → q ≤ 65536
    misplaced-most q b =
        elim b.0 [
          | Broken23.no_room d h ↦ due-most q b d
          | Broken23.no_dollar d h ↦ due-most q b d
          | Broken23.length_under d h ↦ due-most q b d
          | Broken23.end_past d h ↦ due-most q b d
        ]

    -- a structure out of order, or StructLen
    order-most : (q : ℕ) → Broken25 k s q → q ≤ 65536
    order-most q (Broken25.second_other a h) = start-most q (1, a)
    order-most q (Broken25.second_absent h e) = omega arith
    order-most q (Broken25.third_other a h) = start-most q (2, a)
    order-most q (Broken25.third_absent h e) = omega arith
    order-most q (Broken25.later_again i h a g) = start-most q (i, a)
    order-most q (Broken25.prom_sig_not_last a p c h) = start-most q a.0

    -- a head
    head-most : (q : ℕ) → Broken26 k s q → q ≤ 65536
    head-most q (Broken26.map_major a h) = start-most q (1, a)
    head-most q (Broken26.board_major a h) = start-most q (2, a)
    head-most q (Broken26.prom_sig_major a h) = start-most q a.0
    head-most q (Broken26.board_length a h) = start-most q (2, a)
    head-most q (Broken26.map_length a h) = start-most q (1, a)
    head-most q (Broken26.prom_sig_length a h) = start-most q a.0

    -- ---- rules 29 to 34, where each structure keeps rule 23
    module _ (walk : Nowhere (Broken23 k s)) where
      -- it has room for a head
      room-most : (p : ℕ) → StructureAt k s p → p + head_size ≤ 65536
      room-most p a =
          elim (below (struct_len s) (p + head_size)) [ inl h ↦ absurd (walk p (Broken23.no_room (inl a) h)) | inr h ↦ omega arith ]

      hash-most : (q : ℕ) → Broken29 k s q → q ≤ 65536
      hash-most q (Broken29.hash_type_over5 p a e h) = omega (arith, room-most p a.0)
      hash-most q (Broken29.signed_other p a e h i) = omega (arith, room-most p a.0)
      hash-most q (Broken29.hash_length p a e h i) = omega (arith, room-most p a.0)
      hash-most q (Broken29.signed_length p a e h i) = omega (arith, room-most p a.0)

      reserved-most : (q : ℕ) → Broken32 k s q → q ≤ 65536
      reserved-most q (Broken32.reserved_nonzero p a v ends from to h) = omega (arith, end-most p a.0 (walk p))
      reserved-most q (Broken32.record_nonzero w p r a v has c ends from to h) = omega (arith, end-most p a.0 (walk p))

      gpio-most : (p r : ℕ) → GpioRecordAt k s p r → r + 0x30 ≤ 65536
      gpio-most p r (a, has, c, ends) = omega (arith, ends, end-most p a.0.0 (walk p))

      inside-most : (q : ℕ) → Broken33 k s q → q ≤ 65536
      inside-most q (Broken33.under_fixed_part a h) = start-most q a.0
      inside-most q (Broken33.fpga_type_over4 p a f e h) = omega (arith, room-most p a.0.0)
      inside-most q (Broken33.gpio_type_over4 p r a e h) = omega (arith, gpio-most p r a)
      inside-most q (Broken33.gpio_not_whole a g h) = start-most q a.0.0
      inside-most q (Broken33.gpio_length p r a e h) = omega (arith, gpio-most p r a)
      inside-most q (Broken33.gpio_label p r a h) = omega (arith, gpio-most p r a, h.stands, h.bad.within)
      inside-most q (Broken33.data_size_other p r a e h i j) = omega (arith, gpio-most p r a)

      -- rules 30, 34 and 31 look into the map and the board, whose Lengths rule 26 gives
      module _ (head : Nowhere (Broken26 k s)) where
        map-whole : (m : ℕ) → Second k s m → (0x50 ≤ length_at s m) × ((length_at s m - MapData) % map_record_size ≡ 0)
        map-whole m a = (
          elim (below (length_at s m) 0x50) [ inl h ↦ absurd (head m (Broken26.map_length a (λ n i e. omega arith))) | inr h ↦ h ],
          elim (below 0 ((length_at s m - MapData) % map_record_size)) [
            | inl h ↦ absurd (head m (Broken26.map_length a (λ n i e. omega arith)))
            | inr h ↦ omega arith
          ],
        )

        -- the map's fields
        fields-most : (m : ℕ) → Second k s m → m + 0x50 ≤ 65536
        unfolding end_at
        fields-most m a = omega (arith, (map-whole m a).0, end-most m (1, a) (walk m))

        -- its records
        record-most : (m r : ℕ) → Second k s m → Among (records Map s m) r → r + map_record_size ≤ 65536
        record-most m r a c =
            omega (
              arith,
              end-most m (1, a) (walk m),
              (nth-all (λ q. (m + MapData ≤ q) × (q + map_record_size ≤ end_at s m)) (records Map s m) c.0 r
                  (records-fit Map s m (omega (arith, (map-whole m a).0)) (map-whole m a).1) c.1).1,
            )

        map-most : (q : ℕ) → Broken30 k s q → q ≤ 65536
        map-most q (Broken30.part_label m a h) = omega (arith, fields-most m a, h.stands, h.bad.within)
        map-most q (Broken30.record_label m r a c h) = omega (arith, record-most m r a c, h.stands, h.bad.within)
        map-most q (Broken30.blk_length_zero m a e h) = omega (arith, fields-most m a)
        map-most q (Broken30.part_size_other m a e h) = omega (arith, fields-most m a)
        map-most q (Broken30.part_size_below m a e h) = omega (arith, fields-most m a)
        map-most q (Broken30.master_over1 m a e h) = omega (arith, fields-most m a)
        map-most q (Broken30.speed_over3 m a e h) = omega (arith, fields-most m a)
        map-most q (Broken30.record_length m r a c e h) = omega (arith, record-most m r a c)
        map-most q (Broken30.record_offset m j r a c e h) = omega (arith, record-most m r a (j, c))
        map-most q (Broken30.address_over7_f m r a c e h) = omega (arith, record-most m r a c)

        -- a record's label
        label-most : (q : ℕ) → Broken34 k s q → q ≤ 65536
        label-most q (Broken34.label_repeated m i j e r a b c less same place) = omega (arith, record-most m r a (j, c))

        -- BoardType
        board-most : (q : ℕ) → Broken31 k s q → q ≤ 65536
        unfolding end_at
        board-most q (Broken31.board_type_over1 p a e h) =
            elim (below (length_at s p) 0x60) [
              | inl l ↦ absurd (head p (Broken26.board_length a (λ d. omega arith)))
              | inr l ↦ omega (arith, end-most p (2, a) (walk p))
            ]

  -- the rows, each where none before it is broken
  bounded : Bounded 65536 (table k s)
  bounded =
      row (λ q b. elim b [ Broken20.too_few_lent e h ↦ omega arith | Broken20.too_many_lent e h ↦ omega arith ]) λ lent.
      row (λ q b. elim b [ Broken21.header_signature e h ↦ omega arith | Broken21.header_major e h ↦ omega arith | Broken21.header_length_other e h l ↦ omega arith ]) λ _.
      row (λ q b. elim b [ Broken22.struct_len_under e h ↦ omega arith | Broken22.struct_len_above e h ↦ omega arith ]) λ len.
      let most : struct_len s ≤ 65536 = struct-len-most lent len in (
        misplaced-most most,
        λ walk.
            row (λ q b. elim b [ Broken24.gap_nonzero p a more from to h ↦ omega (arith, next-most most p a (walk p)) ]) λ _.
            row (order-most most) λ _.
            row (head-most most) λ head.
            row (λ q b. elim b [ Broken27.wrong_crc n x e h ↦ omega arith | Broken27.wrong_crc_length n x e h ↦ omega arith ]) λ _.
            row (λ q b. elim b [ Broken28.board_past4096 a h ↦ start-most most q (2, a) ]) λ _.
            row (hash-most most walk) λ _.
            row (map-most most walk head) λ _.
            row (label-most most walk head) λ _.
            row (board-most most walk head) λ _.
            row (reserved-most most walk) λ _.
            row (inside-most most walk) λ _. tt,
      )

  -- a refusal has a number from 20 to 34, and a place of at most 65,536
  pub refused-bounds : (n p : ℕ) → judged k s ≡ refusal n p → (20 ≤ n) × (n ≤ 34) × (p ≤ 65536)
  refused-bounds n p e = first-within 20 34 65536 (table k s) refl bounded n p ((refused-exactly k s n p).0 e)

  -- an accepted image has at most 65,536 items, and a StructLen of at most 65,536
  pub accepted-bounds : (n : ℕ) → judged k s ≡ Ok n → (n ≤ 65536) × (struct_len s ≤ 65536)
  accepted-bounds n e =
      let most : struct_len s ≤ 65536 = omega (arith, (struct-len-within k s n e).1, (lent-within k s n e).1) in
      (omega (arith, accepted-count k s n e, count-bound (next s) (struct_len s) (next-grows s) 0 (omega arith)), most)
