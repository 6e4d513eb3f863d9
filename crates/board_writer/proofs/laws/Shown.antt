-- What a reader answers by number over an image, where it is accepted without a `$PromSig`: items 0, 1 and 2 are header, map and board with the fields given,
-- the records are those given, and past them it is 42. On any list, since these three structures count as on every list. Assumes nothing.
use Prim.Native.Nat.{ℕ, ◌+◌, ◌-◌, ◌*◌, ◌≤◌, ◌<◌}
use Rattle.std.specs.Prelude.{true, cond, ◌≡◌, Some, None, Ok, Err}
use mathlib.Core.List.{List, ◌++◌}
use Rattle.std.proofs.Math.Path.{refl, sym, ap, subst}
use Rattle.std.proofs.Common.{◌∙◌, mul-le-mul_right, arith}
use Rattle.board.specs.Answers.{beyond, numbered, item_if, item_numbered, map_record, map_record_if, map_record_numbered}
use Rattle.board.specs.Items.{eeprom_at, eepr_map_at, known, item_as, item_at}
use Rattle.board.specs.declared.Fields.{Fields}
use Rattle.board_layout.specs.Layout.{shape_at, struct_len, structures, header_length, map_at, records, map_count}
use Rattle.board_layout.specs.Places.{head_size, CrcLength, BlkLength, PartSize}
use Rattle.board_layout.specs.Shapes.{shape_of, knows}
use Rattle.board_layout.specs.declared.Records.TheVariants.{Map}
use Rattle.board_layout.specs.declared.Shape.{Shape}
use Rattle.board_rules.specs.Judged.{judged}
use Rattle.board_rules.specs.Rules.{prom_sig_at, covered_up_to, covered}
use Rattle.board_rules.proofs.laws.Accepted.{structures-are, check-holds}
use Rattle.board_rules.proofs.laws.Fields.{map-fields}
use Rattle.board_writer.specs.Image.{map_length, image_length, laid, board_length, map_place, record_place, board_place}
use Rattle.board_writer.specs.Parts.{Parts, Fits, record_count}
use Rattle.board_writer.specs.Shown.{item_shown, header_shown, map_shown, record_shown}
use Rattle.board_writer.proofs.laws.Fields.{version-read, map-read, record-read, board-read}
use Rattle.board_writer.proofs.laws.Places.{Head, header-head, map-head, board-head, struct-len-is, map-at, board-at, records-at}
use Rattle.chain.specs.Fill.{tab}
use Rattle.chain.specs.Nth.{nth}
use Rattle.chain.specs.Found.{Found}
use Rattle.chain.proofs.laws.Fill.{length-tab, get_or-tab}
use Rattle.chain.proofs.laws.Nth.{nth-below, nth-past}
use Rattle.kinds.specs.Signatures.{eeprom, eepr_map, brd_info}
use Rattle.kinds.specs.declared.Kinds.{Kinds}
use Rattle.octets.specs.Bytes.{le32}

-- a known structure with such a head
item-known : (k : Kinds) (s : List ℕ) (p g n : ℕ) (a : Shape) (f : Fields) → Head s p g n → shape_of g 1 ≡ a → knows k a ≡ true
    → item_as s p a ≡ known s p f → item_at k s p ≡ item_shown g p n f
unfolding item_at shape_at
item-known k s p g n a f head shape on fields i =
    record {
      signature = head.signature i;
      place = p;
      length = head.length i - head_size;
      item =
          (ap (λ (b : Shape). cond (knows k b) (item_as s p b) None) ((λ j. shape_of (head.signature j) (head.major j)) ∙ shape)
          ∙ rw on fields
          ∙ (λ j. Some (record { major = head.major j; minor = head.minor j; length = head.length j; fields = f }))) i;
    }

-- the place at a number of a row
nth-tab : (f : ℕ → ℕ) (n i : ℕ) → i < n → nth (tab f n) i ≡ Some (f i)
nth-tab f n i h = nth-below (tab f n) i (omega (arith, length-tab f n)) ∙ ap Some (get_or-tab f n i 0 h)

module _ (x : Parts) (fits : Fits x) (check covers : ℕ) (rest : List ℕ) (small : image_length x < 0x1_0000_0000) where
  abbrev s : List ℕ
  s = laid x check covers ++ rest

  module _ (k : Kinds) (count : ℕ) (e : judged k s ≡ Ok count) where
    -- item number i, at its place
    numbered-at : (i p : ℕ) → nth (structures s) i ≡ Some p → item_numbered k s i ≡ Ok (item_at k s p)
    unfolding item_numbered
    numbered-at i p d = ap (item_if k s i) e ∙ ap (numbered k s) d

    -- CrcLength is StructLen
    covers-all : prom_sig_at s ≡ None → le32 s CrcLength ≡ image_length x
    unfolding covered
    covers-all none =
        (check-holds k s count e).1 ∙ ap (covered_up_to (struct_len s)) none ∙ struct-len-is x check covers rest small

    -- items 0, 1 and 2
    pub header-shown : prom_sig_at s ≡ None → item_numbered k s 0 ≡ Ok (item_shown eeprom 0 (header_length x.header) (Fields.Eeprom (header_shown x)))
    unfolding nth shape_of eeprom_at
    header-shown none =
        numbered-at 0 0 (ap (λ (l : List ℕ). nth l 0) (structures-are k s count e))
        ∙ ap Ok
        (item-known k s 0 eeprom (header_length x.header) Shape.Eeprom (Fields.Eeprom (header_shown x)) (header-head x check covers rest small) refl refl
        (λ i.
        known s 0 (Fields.Eeprom (record {
          structlen = struct-len-is x check covers rest small i;
          crclength = covers-all none i;
          version = version-read x check covers rest fits i;
        }))))

    pub map-shown : item_numbered k s 1 ≡ Ok (item_shown eepr_map (map_place x) (map_length x) (Fields.EeprMap (map_shown x)))
    unfolding nth shape_of
    map-shown =
        numbered-at 1 (map_place x) (ap (λ (l : List ℕ). nth l 1) (structures-are k s count e) ∙ ap Some (map-at x check covers rest small))
        ∙ ap Ok
        (item-known k s (map_place x) eepr_map (map_length x) Shape.EeprMap (Fields.EeprMap (map_shown x)) (map-head x check covers rest small) refl refl
        (λ i. known s (map_place x) (Fields.EeprMap (map-read x check covers rest small fits i))))

    pub board-shown : item_numbered k s 2 ≡ Ok (item_shown brd_info (board_place x) board_length (Fields.BrdInfo x.board))
    unfolding nth shape_of
    board-shown =
        let b : ℕ = board_place x in
        numbered-at 2 b (ap (λ (l : List ℕ). nth l 2) (structures-are k s count e) ∙ ap Some (board-at x check covers rest small))
        ∙ ap Ok
        (item-known k s b brd_info board_length Shape.BrdInfo (Fields.BrdInfo x.board) (board-head x check covers rest small) refl refl
        (λ i. known s b (Fields.BrdInfo (board-read x check covers rest fits i))))

    -- record number i, where that finds it
    record-at : (i : ℕ) (f : Found) → nth (records Map s (map_at s)) i ≡ f → map_record_numbered k s i ≡ map_record s f
    unfolding map_record_numbered
    record-at i f d = ap (map_record_if s i) e ∙ ap (map_record s) d

    -- PartSize is that of the records, so their Offsets fit their fields
    part-is : x.map.partsize ≡ record_count x * x.map.blklength
    unfolding eepr_map_at
    part-is =
        let n : map_count s (map_place x) ≡ record_count x = omega (arith, (map-head x check covers rest small).length) in
        sym (λ i. (map-read x check covers rest small fits i).partsize)
        ∙ subst (λ (m : ℕ). le32 s (m + PartSize) ≡ map_count s m * le32 s (m + BlkLength)) (map-at x check covers rest small)
        (map-fields k s count e).part
        ∙ (λ i. n i * (map-read x check covers rest small fits i).blklength)

    -- record i is the one given, and past them there is none
    pub record-shown : (i : ℕ) → i < record_count x → map_record_numbered k s i ≡ Ok (record_shown x i)
    record-shown i h =
        let place : ℕ → ℕ = record_place x in
        let less : i * x.map.blklength ≤ record_count x * x.map.blklength = mul-le-mul_right x.map.blklength (omega arith) in
        record-at i (Some (place i)) (ap (λ (l : List ℕ). nth l i) (records-at x check covers rest small) ∙ nth-tab place (record_count x) i h)
        ∙ ap Ok (record-read x check covers rest i h (omega (arith, less, part-is, fits.part_size)))

    pub records-end : (i : ℕ) → record_count x ≤ i → map_record_numbered k s i ≡ Err beyond
    records-end i h =
        let place : ℕ → ℕ = record_place x in
        record-at i None
        (ap (λ (l : List ℕ). nth l i) (records-at x check covers rest small)
        ∙ nth-past (tab place (record_count x)) i (omega (arith, length-tab place (record_count x))))
