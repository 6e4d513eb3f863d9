-- An image is made of bytes if what is given is: each block is numbers, spelled in bytes, and bytes given. Assumes nothing.
use Prim.Native.Nat.{ℕ, ◌+◌, ◌-◌, ◌*◌}
use mathlib.Core.List.{List, [], ◌∷◌, ◌++◌, flatten}
use Rattle.std.proofs.Common.{inl, inr, arith}
use Rattle.std.proofs.lemmas.List.{length-replicate, get_or-replicate}
use Rattle.board.specs.declared.BrdInfoFields.{BrdInfoFields}
use Rattle.board_layout.specs.Layout.{header_length}
use Rattle.board_layout.specs.Places.{map_record_size}
use Rattle.board_layout.specs.declared.Header.{Header}
use Rattle.board_writer.specs.Image.{zeros, head, header_of, laid_record, laid_records, map_length, image_length, body, laid}
use Rattle.board_writer.specs.Parts.{Parts, given_size, record_count, OfBytes}
use Rattle.board_writer.specs.declared.MapFields.{MapFields}
use Rattle.octets.proofs.laws.Octets.{Field, number, one, some, octets-append, octets-flat, octets-fields}
use Rattle.board_writer.proofs.laws.Length.{header_block, map_block, record_block, records_block, board_block}
use Rattle.chain.specs.Fill.{tab}
use Rattle.chain.proofs.laws.Below.{below}
use Rattle.kinds.specs.Signatures.{eeprom, eepr_map, brd_info}
use Rattle.octets.specs.Bytes.{byte, Octets, run, spelled}
use Rattle.octets.specs.Runs.{sixteen}
use Rattle.octets.proofs.laws.Bytes.{byte-past, run-octets}

-- the fields of a head
abbrev head_fields : ℕ → ℕ → List Field
head_fields signature size = number 8 signature ∷ number 2 1 ∷ number 2 0 ∷ number 4 size ∷ []

-- ---- the blocks; zeros are 0 spelled, or a run
zeros-octets : (n : ℕ) → Octets (zeros n)
zeros-octets n p =
    elim (below p n) [
      | inl h ↦ omega (arith, get_or-replicate {A = ℕ} n p 0 0 h)
      | inr h ↦ omega (arith, byte-past (zeros n) p (omega (arith, length-replicate {A = ℕ} n 0)))
    ]

header-octets : (h : Header) (end check covers version : ℕ) → Octets (header_of h end check covers version)
unfolding spelled flatten
header-octets h end check covers version =
    let fields : List ℕ = head eeprom (header_length h) ++ spelled 4 end ++ spelled 4 check ++ spelled 4 covers ++ spelled 4 version in
    octets-append fields (zeros (header_length h - 0x20))
    (octets-fields (head_fields eeprom (header_length h) ++ (number 4 end ∷ number 4 check ∷ number 4 covers ∷ number 4 version ∷ [])))
    (zeros-octets (header_length h - 0x20))

-- the image, if all that follows its header is bytes
pub laid-octets : (x : Parts) (check covers : ℕ) → Octets (body x) → Octets (laid x check covers)
unfolding laid
laid-octets x check covers h =
    octets-append (header_block x check covers) (body x) (header-octets x.header (image_length x) check covers x.version) h

module _ (x : Parts) (given : OfBytes x) where
  -- the map, up to its records
  map-octets : Octets (map_block x)
  unfolding spelled flatten tab
  map-octets =
      let m : MapFields = x.map in
      octets-fields
      (head_fields eepr_map (map_length x)
      ++ (some (sixteen m.partlabel) (run-octets m.partlabel 0 16 given.part_label)
      ∷ number 4 m.blklength
      ∷ number 2 m.pagesize
      ∷ number 4 m.partsize
      ∷ one m.busnumber given.bus_number
      ∷ one m.master given.master
      ∷ one m.speed given.speed
      ∷ number 3 0
      ∷ []))

  -- a record's label and address are bytes of the run
  record-octets : (k : ℕ) → Octets (record_block x k)
  unfolding laid_record spelled flatten tab
  record-octets k =
      let r : List ℕ = x.records in
      let p : ℕ = given_size * k in
      octets-fields
      (some (run r p 16) (run-octets r p 16 given.records)
      ∷ number 4 map_record_size
      ∷ number 4 (k * x.map.blklength)
      ∷ one (byte r (p + 16)) (given.records (p + 16))
      ∷ number 7 0
      ∷ [])

  -- the board
  board-octets : Octets (board_block x)
  unfolding spelled flatten tab
  board-octets =
      let b : BrdInfoFields = x.board in
      octets-fields
      (head_fields brd_info 0x60
      ++ (some (sixteen b.manuname) (run-octets b.manuname 0 16 given.manu_name)
      ∷ some (sixteen b.brdname) (run-octets b.brdname 0 16 given.brd_name)
      ∷ some (sixteen b.brdserial) (run-octets b.brdserial 0 16 given.brd_serial)
      ∷ number 4 b.boardid
      ∷ number 4 b.fabid
      ∷ number 4 b.ecid
      ∷ one b.boardtype given.board_type
      ∷ number 19 0
      ∷ []))

  -- so all that follows the header is bytes
  pub body-octets : Octets (body x)
  unfolding body laid_records
  body-octets =
      octets-append (map_block x ++ records_block x ++ board_block x) x.further
      (octets-append (map_block x ++ records_block x) (board_block x)
      (octets-append (map_block x) (records_block x) map-octets (octets-flat (record_block x) (record_count x) record-octets)) board-octets)
      given.further
