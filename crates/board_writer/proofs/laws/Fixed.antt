-- The header, the map's fields, a map record and the board, laid of what is read of them, are the runs of their bytes, where the head is of version 1.0 and the
-- reserved bytes are zero. Field by field, in the order of the definitions. Assumes nothing.
use Rattle.std.specs.Prelude.{ℕ, ◌+◌, ◌-◌, ◌≤◌, ◌<◌, List, ◌≡◌, refl}
use Rattle.std.proofs.Common.{ap, ◌∙◌, add-zero, arith}
use Rattle.board.specs.Items.{eeprom_at, eepr_map_at, brd_info_at}
use Rattle.board_layout.specs.Layout.{struct_len, header_length}
use Rattle.board_layout.specs.Places.{VerMajor, VerMinor, Length, StructLen, Crc32, CrcLength, Version, ManuName, BrdName, BrdSerial, BoardId, FabId, EcId, BoardType, PartLabel, BlkLength, PageSize, PartSize, BusNumber, Master, Speed, MapLabel, MapLength, MapOffset, Address, map_record_size}
use Rattle.board_layout.specs.declared.Header.{Header}
use Rattle.board_layout.proofs.laws.Layout.{header-size}
use Rattle.board_writer.specs.Image.{head, header_of, map_of, record_of, board_of}
use Rattle.board_writer.specs.PartsOf.{map_given}
use Rattle.board_writer.proofs.laws.Places.{Head}
use Rattle.board_writer.proofs.laws.Read.{beside, one-run, zeros-run, two-run, four-run, eight-run}
use Rattle.chain.specs.Fill.{tab}
use Rattle.kinds.specs.Signatures.{eeprom, eepr_map, brd_info}
use Rattle.octets.specs.Bytes.{byte, Octets, run, spelled, le16, le32, le64}
use Rattle.octets.specs.Runs.{sixteen}
use Rattle.octets.proofs.laws.Bytes.{length-run, sixteen-all}

-- the bytes from one offset up to another are zero
abbrev pub Zero : List ℕ → ℕ → ℕ → ℕ → Type 0
Zero s p from to = (i : ℕ) → from ≤ i → i < to → byte s (p + i) ≡ 0

module _ (s : List ℕ) (octets : Octets s) (p : ℕ) where
  -- the generic head
  head-run : (g n : ℕ) → Head s p g n → head g n ≡ run s (p + 0) 16
  unfolding spelled
  head-run g n h =
      beside s p 0 8 8 (eight-run s octets (p + 0) g (ap (le64 s) (add-zero p) ∙ h.signature))
      (beside s p 8 2 6 (two-run s octets (p + VerMajor) 1 h.major)
      (beside s p 10 2 4 (two-run s octets (p + VerMinor) 0 h.minor) (four-run s octets (p + Length) n h.length)))

  -- a number of four bytes at an offset
  four-at : (a : ℕ) → spelled 4 (le32 s (p + a)) ≡ run s (p + a) 4
  four-at a = four-run s octets (p + a) (le32 s (p + a)) refl

  -- a label or a name at an offset
  label-run : (a : ℕ) → sixteen (run s (p + a) 16) ≡ run s (p + a) 16
  label-run a = sixteen-all (run s (p + a) 16) (length-run s (p + a) 16)

  -- a block from offset 0 on starts at p
  from-start : (n : ℕ) {x : List ℕ} → x ≡ run s (p + 0) n → x ≡ run s p n
  from-start n e = e ∙ ap (λ (q : ℕ). run s q n) (add-zero p)

  -- the map's fields
  pub map-run : (n : ℕ) → Head s p eepr_map n → Zero s p 0x2D 0x30 → map_of n (map_given (eepr_map_at s p)) ≡ run s p 0x30
  unfolding eepr_map_at spelled tab le16 le32
  map-run n h zero =
      from-start 0x30
      (beside s p 0 16 32 (head-run eepr_map n h)
      (beside s p PartLabel 16 16 (label-run PartLabel)
      (beside s p BlkLength 4 12 (four-at BlkLength)
      (beside s p PageSize 2 10 (two-run s octets (p + PageSize) (le16 s (p + PageSize)) refl)
      (beside s p PartSize 4 6 (four-at PartSize)
      (beside s p BusNumber 1 5 (one-run s p BusNumber)
      (beside s p Master 1 4 (one-run s p Master)
      (beside s p Speed 1 3 (one-run s p Speed) (zeros-run s p 0x2D 3 zero)))))))))

  -- a map record
  pub record-run : (offset : ℕ) → le32 s (p + MapLength) ≡ map_record_size → le32 s (p + MapOffset) ≡ offset → Zero s p 0x19 0x20
      → record_of (run s (p + MapLabel) 16) offset (byte s (p + Address)) ≡ run s p 0x20
  unfolding spelled tab
  record-run offset size place zero =
      from-start 0x20
      (beside s p MapLabel 16 16 refl
      (beside s p MapLength 4 12 (four-run s octets (p + MapLength) map_record_size size)
      (beside s p MapOffset 4 8 (four-run s octets (p + MapOffset) offset place)
      (beside s p Address 1 7 (one-run s p Address) (zeros-run s p 0x19 7 zero)))))

  -- the board
  pub board-run : Head s p brd_info 0x60 → Zero s p 0x4D 0x60 → board_of (brd_info_at s p) ≡ run s p 0x60
  unfolding brd_info_at spelled tab
  board-run h zero =
      from-start 0x60
      (beside s p 0 16 80 (head-run brd_info 0x60 h)
      (beside s p ManuName 16 64 (label-run ManuName)
      (beside s p BrdName 16 48 (label-run BrdName)
      (beside s p BrdSerial 16 32 (label-run BrdSerial)
      (beside s p BoardId 4 28 (four-at BoardId)
      (beside s p FabId 4 24 (four-at FabId)
      (beside s p EcId 4 20 (four-at EcId)
      (beside s p BoardType 1 19 (one-run s p BoardType) (zeros-run s p 0x4D 19 zero)))))))))

-- ---- the header, with the check fields that it has
pub header-run : (s : List ℕ) (octets : Octets s) (h : Header) → Head s 0 eeprom (header_length h) → Zero s 0 0x20 (header_length h)
    → header_of h (struct_len s) (le32 s Crc32) (le32 s CrcLength) (eeprom_at s 0).version ≡ run s 0 (header_length h)
unfolding eeprom_at spelled
header-run s octets h head zero =
    let n : ℕ = header_length h - 0x20 in
    let reserved = zeros-run s 0 0x20 n (λ i a b. zero i a (omega (arith, (header-size h).0))) in
    beside s 0 0 16 (4 + (4 + (4 + (4 + n)))) (head-run s octets 0 eeprom (header_length h) head)
    (beside s 0 StructLen 4 (4 + (4 + (4 + n))) (four-at s octets 0 StructLen)
    (beside s 0 Crc32 4 (4 + (4 + n)) (four-at s octets 0 Crc32)
    (beside s 0 CrcLength 4 (4 + n) (four-at s octets 0 CrcLength)
    (beside s 0 Version 4 n (four-at s octets 0 Version) reserved))))
    ∙ ap (run s 0) (omega (arith, (header-size h).0))
