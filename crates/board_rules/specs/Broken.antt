-- Rules 20 to 34 as the rows of the papers' table: at which places each is broken, with a case for each clause of its wording, in its order. Paper 01, "Refusal
-- numbers and their order", and paper 02, R-2 and R-6. What the judge looks for (Rules.antt) is proved to be the smallest such place. Assumes nothing.
use Rattle.std.specs.Prelude.{ℕ, ◌+◌, ◌*◌, ◌≤◌, ◌<◌, true, false, List, [], ◌∷◌, ◌⊎◌, ◌≡◌, length, Some, None}
use Rattle.board_fields.specs.Hash.{hash_size, is_signed, hash_type, is_signable}
use Rattle.board_layout.specs.Layout.{signature_at, major_at, minor_at, length_at, shape_at, struct_len, end_at, next, structures, records, map_count}
use Rattle.board_layout.specs.Places.{head_size, StructLen, Crc32, CrcLength, HashType, EepromSig, PartLabel, BlkLength, PartSize, Master, Speed, MapLabel, MapLength, MapOffset, Address, map_record_size, BoardType, FpgaDataType, GpioData, GpioLabel, GpioLength, DataSize, GpioDataType, gpio_record_size}
use Rattle.board_layout.specs.Shapes.{knows, fixed_part, reserved_from, reserved_to, HasRecords}
use Rattle.board_layout.specs.declared.Records.{Records}
use Rattle.board_layout.specs.declared.Records.TheVariants.{Map, Gpio}
use Rattle.board_layout.specs.declared.Shape.TheVariants.{FpgaNfo, GpioDat}
use Rattle.board_records.specs.Records.{record_from, record_to}
use Rattle.board_rules.specs.Rules.{check_over}
use Rattle.chain.specs.Finds.{Among, Nowhere}
use Rattle.chain.specs.Nth.{nth}
use Rattle.kinds.specs.Signatures.{eeprom, eepr_map, brd_info, prom_sig}
use Rattle.kinds.specs.declared.Kinds.{Kinds}
use Rattle.octets.specs.Bytes.{byte, le16, le32}
use Rattle.octets.specs.Label.{dollar, label, BadAt}
use Rattle.verdict.specs.Table.{Row}

module _ (k : Kinds) (s : List ℕ) where
  -- ---- the structures that the rows speak of
  -- a structure starts at p: the first is the header, the second the map and the third the board
  abbrev pub StructureAt : ℕ → Type 0
  StructureAt p = Among (structures s) p

  abbrev pub Second : ℕ → Type 0
  Second p = nth (structures s) 1 ≡ Some p

  abbrev pub Third : ℕ → Type 0
  Third p = nth (structures s) 2 ≡ Some p

  abbrev pub PromSigAt : ℕ → Type 0
  PromSigAt p = StructureAt p × (signature_at s p ≡ prom_sig)

  -- "at an end that is not StructLen, another is due", one that starts before StructLen or not
  abbrev pub DueAt : ℕ → Type 0
  DueAt p = StructureAt p ⊎ ((r : ℕ) × (StructureAt r × (end_at s r ≡ struct_len s → ⊥) × (p ≡ next s r)))

  -- "known structure"; and one that holds its fixed part: "A field not wholly within its structure's Length is not read"
  abbrev pub KnownAt : ℕ → Type 0
  KnownAt p = StructureAt p × (knows k (shape_at s p) ≡ true)

  abbrev pub WholeAt : ℕ → Type 0
  WholeAt p = KnownAt p × (fixed_part (shape_at s p) ≤ length_at s p)

  -- a record of known GPIO data, wholly within their Length, starts at r
  abbrev pub GpioRecordAt : ℕ → ℕ → Type 0
  GpioRecordAt p r = WholeAt p × HasRecords Gpio (shape_at s p) × Among (records Gpio s p) r × (r + gpio_record_size ≤ end_at s p)

  -- "The expected CrcLength is StructLen, or the place of `$PromSig` plus 20h."
  pub data Expected (n : ℕ) : Type 0 where
    to_struct_len : Nowhere PromSigAt → n ≡ struct_len s → Expected n
    to_prom_sig : (p : ℕ) → PromSigAt p → n ≡ p + 0x20 → Expected n

  -- ---- the rows: rule broken, place
  -- 20: under 20h or over 65,536 bytes lent; 0. "the smallest lent image is 20h"
  pub data Broken20 (q : ℕ) : Type 0 where
    too_few_lent : q ≡ 0 → length s < 0x20 → Broken20 q
    too_many_lent : q ≡ 0 → 65536 < length s → Broken20 q

  -- 21: `$Eeprom$` signature, VerMajor 1 or Length 20h or 30h; 0. "Both 20h and 30h are now good."
  pub data Broken21 (q : ℕ) : Type 0 where
    header_signature : q ≡ 0 → (signature_at s 0 ≡ eeprom → ⊥) → Broken21 q
    header_major : q ≡ 0 → (major_at s 0 ≡ 1 → ⊥) → Broken21 q
    header_length_other : q ≡ 0 → (length_at s 0 ≡ 0x20 → ⊥) → (length_at s 0 ≡ 0x30 → ⊥) → Broken21 q

  -- 22: "StructLen under the header's Length, or above what is lent"; 10h
  pub data Broken22 (q : ℕ) : Type 0 where
    struct_len_under : q ≡ StructLen → struct_len s < length_at s 0 → Broken22 q
    struct_len_above : q ≡ StructLen → length s < struct_len s → Broken22 q

  -- 23: where a structure is due: under 16 bytes left before StructLen, no '$' first, Length under 16, or end past StructLen; its start
  pub data Broken23 (q : ℕ) : Type 0 where
    no_room : DueAt q → struct_len s < q + head_size → Broken23 q
    no_dollar : DueAt q → (byte s q ≡ dollar → ⊥) → Broken23 q
    length_under : DueAt q → length_at s q < head_size → Broken23 q
    end_past : DueAt q → struct_len s < end_at s q → Broken23 q

  -- 24: nonzero byte between structures; the byte
  pub data Broken24 (q : ℕ) : Type 0 where
    gap_nonzero : (p : ℕ) → StructureAt p → (end_at s p ≡ struct_len s → ⊥) → end_at s p ≤ q → q < next s p → (byte s q ≡ 0 → ⊥) → Broken24 q

  -- 25: second not `$EeprMap`, third not `$BrdInfo`, a later one of these or `$Eeprom$`, or `$PromSig` not last; its start, or StructLen if absent
  pub data Broken25 (q : ℕ) : Type 0 where
    second_other : Second q → (signature_at s q ≡ eepr_map → ⊥) → Broken25 q
    second_absent : nth (structures s) 1 ≡ None → q ≡ struct_len s → Broken25 q
    third_other : Third q → (signature_at s q ≡ brd_info → ⊥) → Broken25 q
    third_absent : nth (structures s) 2 ≡ None → q ≡ struct_len s → Broken25 q
    later_again : (i : ℕ) → 3 ≤ i → nth (structures s) i ≡ Some q → (signature_at s q ≡ eepr_map) ⊎ (signature_at s q ≡ brd_info) ⊎ (signature_at s q ≡ eeprom) → Broken25 q
    prom_sig_not_last : PromSigAt q → (p : ℕ) → StructureAt p → q < p → Broken25 q

  -- 26: VerMajor not 1 in map, board or `$PromSig`; board Length not 60h; map Length not 30h + 20h n with n at least 1; `$PromSig` Length under 20h; its start
  pub data Broken26 (q : ℕ) : Type 0 where
    map_major : Second q → (major_at s q ≡ 1 → ⊥) → Broken26 q
    board_major : Third q → (major_at s q ≡ 1 → ⊥) → Broken26 q
    prom_sig_major : PromSigAt q → (major_at s q ≡ 1 → ⊥) → Broken26 q
    board_length : Third q → (length_at s q ≡ 0x60 → ⊥) → Broken26 q
    map_length : Second q → ((n : ℕ) → 1 ≤ n → length_at s q ≡ 0x30 + 0x20 * n → ⊥) → Broken26 q
    prom_sig_length : PromSigAt q → length_at s q < 0x20 → Broken26 q

  -- 27: Crc32; CrcLength; 14h; 18h
  pub data Broken27 (q : ℕ) : Type 0 where
    wrong_crc : (n : ℕ) → Expected n → q ≡ Crc32 → (le32 s q ≡ check_over s n → ⊥) → Broken27 q
    wrong_crc_length : (n : ℕ) → Expected n → q ≡ CrcLength → (le32 s q ≡ n → ⊥) → Broken27 q

  -- 28: `$BrdInfo` ends past 4,096; its start
  pub data Broken28 (q : ℕ) : Type 0 where
    board_past4096 : Third q → 4096 < end_at s q → Broken28 q

  -- 29: HashType not 0 to 5, signed flag on a type other than 1 to 3, Length not 20h + hash size (signed: less than that); HashType
  pub data Broken29 (q : ℕ) : Type 0 where
    hash_type_over5 : (p : ℕ) → PromSigAt p → q ≡ p + HashType → 5 < hash_type (le16 s q) → Broken29 q
    signed_other : (p : ℕ) → PromSigAt p → q ≡ p + HashType → is_signed (le16 s q) ≡ true → is_signable (hash_type (le16 s q)) ≡ false → Broken29 q
    hash_length : (p : ℕ) → PromSigAt p → q ≡ p + HashType → is_signed (le16 s q) ≡ false → (length_at s p ≡ EepromSig + hash_size (hash_type (le16 s q)) → ⊥)
        → Broken29 q
    signed_length : (p : ℕ) → PromSigAt p → q ≡ p + HashType → is_signed (le16 s q) ≡ true → length_at s p < EepromSig + hash_size (hash_type (le16 s q)) → Broken29 q

  -- 30: map: label; BlkLength 0; PartSize not n x BlkLength or below StructLen; Master over 1; Speed over 3; record Length, Offset; Address over 7Fh; field, or
  -- the label's bad byte. "Record k has Offset k x BlkLength."
  pub data Broken30 (q : ℕ) : Type 0 where
    part_label : (m : ℕ) → Second m → BadAt s (m + PartLabel) q → Broken30 q
    record_label : (m r : ℕ) → Second m → Among (records Map s m) r → BadAt s (r + MapLabel) q → Broken30 q
    blk_length_zero : (m : ℕ) → Second m → q ≡ m + BlkLength → le32 s q ≡ 0 → Broken30 q
    part_size_other : (m : ℕ) → Second m → q ≡ m + PartSize → (le32 s q ≡ map_count s m * le32 s (m + BlkLength) → ⊥) → Broken30 q
    part_size_below : (m : ℕ) → Second m → q ≡ m + PartSize → le32 s q < struct_len s → Broken30 q
    master_over1 : (m : ℕ) → Second m → q ≡ m + Master → 1 < byte s q → Broken30 q
    speed_over3 : (m : ℕ) → Second m → q ≡ m + Speed → 3 < byte s q → Broken30 q
    record_length : (m r : ℕ) → Second m → Among (records Map s m) r → q ≡ r + MapLength → (le32 s q ≡ map_record_size → ⊥) → Broken30 q
    record_offset : (m j r : ℕ) → Second m → nth (records Map s m) j ≡ Some r → q ≡ r + MapOffset → (le32 s q ≡ j * le32 s (m + BlkLength) → ⊥) → Broken30 q
    address_over7_f : (m r : ℕ) → Second m → Among (records Map s m) r → q ≡ r + Address → 0x7F < byte s q → Broken30 q

  -- 34: two map records whose sixteen label bytes are equal; the first label that equals an earlier one
  pub data Broken34 (q : ℕ) : Type 0 where
    label_repeated : (m i j e r : ℕ) → Second m → nth (records Map s m) i ≡ Some e → nth (records Map s m) j ≡ Some r → i < j
        → label s (e + MapLabel) ≡ label s (r + MapLabel) → q ≡ r + MapLabel → Broken34 q

  -- 31: BoardType over 1; the field
  pub data Broken31 (q : ℕ) : Type 0 where
    board_type_over1 : (p : ℕ) → Third p → q ≡ p + BoardType → 1 < byte s q → Broken31 q

  -- 32: reserved byte nonzero in a known structure with VerMinor 0, its records included; the byte
  pub data Broken32 (q : ℕ) : Type 0 where
    reserved_nonzero : (p : ℕ) → KnownAt p → minor_at s p ≡ 0 → p + reserved_to (shape_at s p) ≤ end_at s p
        → p + reserved_from (shape_at s p) ≤ q → q < p + reserved_to (shape_at s p) → (byte s q ≡ 0 → ⊥) → Broken32 q
    record_nonzero : (which : Records) (p r : ℕ) → KnownAt p → minor_at s p ≡ 0 → HasRecords which (shape_at s p) → Among (records which s p) r → r + record_to which ≤ end_at s p
        → r + record_from which ≤ q → q < r + record_to which → (byte s q ≡ 0 → ⊥) → Broken32 q

  -- 33: known structure under its fixed part (30h for `$MacInfo`, else 20h); FPGA or GPIO DataType over 4; GPIO data not whole 30h records, record Length, label,
  -- DataSize not 1, 2, 4; start, field, or the label's bad byte
  pub data Broken33 (q : ℕ) : Type 0 where
    under_fixed_part : KnownAt q → length_at s q < fixed_part (shape_at s q) → Broken33 q
    fpga_type_over4 : (p : ℕ) → WholeAt p → shape_at s p ≡ FpgaNfo → q ≡ p + FpgaDataType → 4 < byte s q → Broken33 q
    gpio_type_over4 : (p r : ℕ) → GpioRecordAt p r → q ≡ r + GpioDataType → 4 < byte s q → Broken33 q
    gpio_not_whole : WholeAt q → shape_at s q ≡ GpioDat → ((n : ℕ) → length_at s q ≡ GpioData + gpio_record_size * n → ⊥) → Broken33 q
    gpio_length : (p r : ℕ) → GpioRecordAt p r → q ≡ r + GpioLength → (le32 s q ≡ gpio_record_size → ⊥) → Broken33 q
    gpio_label : (p r : ℕ) → GpioRecordAt p r → BadAt s (r + GpioLabel) q → Broken33 q
    data_size_other : (p r : ℕ) → GpioRecordAt p r → q ≡ r + DataSize → (byte s q ≡ 1 → ⊥) → (byte s q ≡ 2 → ⊥) → (byte s q ≡ 4 → ⊥) → Broken33 q

-- the table, in the order of the rules: 34 "comes after 30 and before 31"
abbrev pub table : Kinds → List ℕ → List Row
table k s =
    (20, Broken20 k s)
    ∷ (21, Broken21 k s)
    ∷ (22, Broken22 k s)
    ∷ (23, Broken23 k s)
    ∷ (24, Broken24 k s)
    ∷ (25, Broken25 k s)
    ∷ (26, Broken26 k s)
    ∷ (27, Broken27 k s)
    ∷ (28, Broken28 k s)
    ∷ (29, Broken29 k s)
    ∷ (30, Broken30 k s)
    ∷ (34, Broken34 k s)
    ∷ (31, Broken31 k s)
    ∷ (32, Broken32 k s)
    ∷ (33, Broken33 k s)
    ∷ []
