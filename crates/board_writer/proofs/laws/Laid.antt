-- What is read of an accepted image, laid again with its check fields, is its first StructLen bytes: header, map, records, board and further bytes are the runs
-- of their bytes, and these lie end to end. Assumes nothing.
use Prim.Native.Nat.{ℕ, ◌+◌, ◌-◌, ◌*◌, ◌≤◌}
use Rattle.std.specs.Prelude.{List, ◌≡◌, take, Ok}
use Rattle.std.proofs.Math.Path.{refl, sym, ap, ap₂}
use Rattle.std.proofs.Common.{◌∙◌, arith}
use Rattle.board.specs.Items.{eeprom_at, eepr_map_at}
use Rattle.board_layout.specs.Layout.{length_at, struct_len, end_at, header_length, header_with, map_at, board_at, map_count}
use Rattle.board_layout.specs.Places.{Crc32, CrcLength, BlkLength, MapData, map_record_size}
use Rattle.board_layout.specs.declared.Header.{Header}
use Rattle.board_layout.proofs.laws.Layout.{header-with}
use Rattle.board_rules.specs.Judged.{judged}
use Rattle.board_rules.proofs.laws.Accepted.{struct-len-within, header-is, map-place, map-second, board-third, three-fit, map-head, board-head, board-place, board-ends}
use Rattle.board_writer.specs.Image.{header_of, map_of, laid_records, board_of, map_length, image_length, body, laid}
use Rattle.board_writer.specs.Parts.{record_count}
use Rattle.board_writer.specs.PartsOf.{map_given, records_of, parts_of, Rebuildable}
use Rattle.board_writer.proofs.laws.Fixed.{header-run, map-run, board-run}
use Rattle.board_writer.proofs.laws.Read.{joined}
use Rattle.board_writer.proofs.laws.Records.{records-length, laid-records}
use Rattle.board_writer.proofs.laws.Reserved.{header-zero, map-zero, board-zero}
use Rattle.kinds.specs.Kinds.{full}
use Rattle.octets.specs.Bytes.{Octets, run, le32}
use Rattle.octets.proofs.laws.Bytes.{length-run, run-part}

module _ (s : List ℕ) (n : ℕ) (e : judged full s ≡ Ok n) where
  -- ---- where the parts lie
  -- the map's Length, where map and board start, and where the board ends
  map-length : length_at s (map_at s) ≡ MapData + map_count s (map_at s) * map_record_size
  map-length = (map-head full s n e).1

  -- the header that is read, and so where the map starts
  abbrev header : Header
  header = (parts_of s).header

  header-read : length_at s 0 ≡ header_length header
  unfolding parts_of
  header-read =
      let h = (header-is full s n e).2 in
      h.1 ∙ sym (ap (λ (l : ℕ). header_length (header_with l)) h.1 ∙ ap header_length (header-with h.0))

  map-start : map_at s ≡ header_length header
  map-start = map-place full s n e ∙ header-read

  board-start : board_at s ≡ map_at s + (MapData + map_count s (map_at s) * map_record_size)
  unfolding end_at
  board-start = board-place full s n e ∙ ap (λ (k : ℕ). map_at s + k) map-length

  board-end : (end_at s (board_at s) ≡ board_at s + 0x60) × (end_at s (board_at s) ≤ struct_len s)
  board-end = ((board-ends full s n e).0, (three-fit full s n e).2.ends)

  -- as many records are given as are read
  counted : record_count (parts_of s) ≡ map_count s (map_at s)
  unfolding parts_of
  counted = omega (arith, records-length s n e)

  -- the image that is laid has StructLen bytes
  pub length-parts : image_length (parts_of s) ≡ struct_len s
  unfolding parts_of
  length-parts =
      omega (arith, counted, length-run s (end_at s (board_at s)) (struct_len s - end_at s (board_at s)), map-start, board-start, board-end.0, board-end.1)

  module _ (r : Rebuildable s) (octets : Octets s) where
    -- ---- each part that is laid is the run of its bytes
    header-parts : header_of header (image_length (parts_of s)) (le32 s Crc32) (le32 s CrcLength) (parts_of s).version ≡ run s 0 (header_length header)
    unfolding parts_of
    header-parts =
        let h = header-is full s n e in
        ap (λ (k : ℕ). header_of header k (le32 s Crc32) (le32 s CrcLength) (eeprom_at s 0).version) length-parts
        ∙ header-run s octets header (record { signature = h.0; major = h.1; minor = r.header; length = header-read })
        (λ i a b. header-zero s n e r i a (omega (arith, header-read)))

    map-parts : map_of (map_length (parts_of s)) (parts_of s).map ≡ run s (map_at s) MapData
    unfolding parts_of
    map-parts =
        let k : map_length (parts_of s) ≡ length_at s (map_at s) = omega (arith, counted, map-length) in
        ap (λ (l : ℕ). map_of l (map_given (eepr_map_at s (map_at s)))) k
        ∙ map-run s octets (map_at s) (length_at s (map_at s))
        (record { signature = (map-second full s n e).1; major = (map-head full s n e).0; minor = r.map; length = refl }) (map-zero s n e r)

    records-parts : laid_records (parts_of s).records (parts_of s).map.blklength (record_count (parts_of s))
        ≡ run s (map_at s + MapData) (map_count s (map_at s) * map_record_size)
    unfolding parts_of eepr_map_at
    records-parts = ap (laid_records (records_of s) (le32 s (map_at s + BlkLength))) counted ∙ laid-records s n e r octets

    board-parts : board_of (parts_of s).board ≡ run s (board_at s) 0x60
    unfolding parts_of
    board-parts =
        board-run s octets (board_at s)
        (record { signature = (board-third full s n e).1; major = (board-head full s n e).0; minor = r.board; length = (board-head full s n e).1 })
        (board-zero s n e r)

    -- ---- and they lie end to end
    body-parts : body (parts_of s) ≡ run s (header_length header) (struct_len s - header_length header)
    unfolding body parts_of
    body-parts =
        let count : ℕ = map_count s (map_at s) in
        let end : ℕ = end_at s (board_at s) in
        let k : MapData + count * map_record_size + 0x60 + (struct_len s - end) ≡ struct_len s - header_length header =
        omega (arith, map-start, board-start, board-end.0, board-end.1) in
        joined s (map_at s) (MapData + count * map_record_size + 0x60) end (struct_len s - end) (omega (arith, board-start, board-end.0))
        (joined s (map_at s) (MapData + count * map_record_size) (board_at s) 0x60 board-start
        (joined s (map_at s) MapData (map_at s + MapData) (count * map_record_size) refl map-parts records-parts) board-parts)
        refl
        ∙ ap₂ (run s) map-start k

    -- all of them
    pub laid-parts : laid (parts_of s) (le32 s Crc32) (le32 s CrcLength) ≡ take (struct_len s) s
    unfolding laid
    laid-parts =
        let w = struct-len-within full s n e in
        let k : header_length header + (struct_len s - header_length header) ≡ struct_len s = omega (arith, w.0, header-read) in
        joined s 0 (header_length header) (header_length header) (struct_len s - header_length header) (omega arith) header-parts body-parts
        ∙ ap (run s 0) k ∙ run-part s 0 (struct_len s) (omega (arith, w.1))
