-- Where the blocks of an image lie: header, map, each record, board and further bytes, whatever its check fields are and whatever bytes follow it.
-- Assumes nothing.
use Rattle.std.specs.Prelude.{ℕ, ◌+◌, ◌*◌, ◌<◌, ◌≡◌}
use mathlib.Core.List.{List, ◌++◌, append_assoc}
use Rattle.std.proofs.Common.{subst, arith}
use Rattle.board_layout.specs.Places.{map_record_size, MapData}
use Rattle.board_writer.specs.Image.{laid_records, map_length, image_length, body, laid, board_length, map_place, record_place, board_place, further_place}
use Rattle.board_writer.specs.Parts.{Parts, record_count}
use Rattle.board_writer.proofs.laws.Length.{header_block, map_block, record_block, records_block, board_block, header-length, map-length, record-length, records-length, board-length}
use Rattle.octets.proofs.laws.Lies.{Lies, lies-front, lies-after, lies-piece}

module _ (x : Parts) (check covers : ℕ) (rest : List ℕ) where
  -- from the board on, from the records on, and from the map on
  abbrev from_board : List ℕ
  from_board = board_block x ++ (x.further ++ rest)

  abbrev from_records : List ℕ
  from_records = records_block x ++ from_board

  abbrev from_map : List ℕ
  from_map = map_block x ++ from_records

  -- one after the other
  blocks : header_block x check covers ++ from_map ≡ laid x check covers ++ rest
  unfolding laid body
  blocks = simp append_assoc

  -- a block that lies after the header, after the map, and after the records
  after-header : (p q : ℕ) (h : List ℕ) → q ≡ map_place x + p → Lies from_map p h → Lies (laid x check covers ++ rest) q h
  after-header p q h e lies =
      subst (λ (s : List ℕ). Lies s q h) blocks
      (lies-after (header_block x check covers) from_map h p q
      (omega (arith, header-length x.header (image_length x) check covers x.version)) lies)

  after-map : (p q : ℕ) (h : List ℕ) → q ≡ map_place x + MapData + p → Lies from_records p h → Lies (laid x check covers ++ rest) q h
  after-map p q h e lies =
      after-header (MapData + p) q h (omega arith)
      (lies-after (map_block x) from_records h p (MapData + p) (omega (arith, map-length (map_length x) x.map)) lies)

  after-records : (p q : ℕ) (h : List ℕ) → q ≡ board_place x + p → Lies from_board p h → Lies (laid x check covers ++ rest) q h
  after-records p q h e lies =
      let size = records-length x.records x.map.blklength (record_count x) in
      after-map (record_count x * map_record_size + p) q h (omega arith)
      (lies-after (records_block x) from_board h p (record_count x * map_record_size + p) (omega (arith, size)) lies)

  -- ---- each block at its place
  pub header-lies : Lies (laid x check covers ++ rest) 0 (header_block x check covers)
  header-lies =
      subst (λ (s : List ℕ). Lies s 0 (header_block x check covers)) blocks (lies-front (header_block x check covers) from_map)

  pub map-lies : Lies (laid x check covers ++ rest) (map_place x) (map_block x)
  map-lies = after-header 0 (map_place x) (map_block x) (omega arith) (lies-front (map_block x) from_records)

  pub record-lies : (k : ℕ) → k < record_count x → Lies (laid x check covers ++ rest) (record_place x k) (record_block x k)
  unfolding laid_records
  record-lies k h =
      after-map (k * map_record_size) (record_place x k) (record_block x k) (omega arith)
      (lies-piece (record_block x) map_record_size (record_count x) k from_board
      (record-length x.records x.map.blklength) h)

  pub board-lies : Lies (laid x check covers ++ rest) (board_place x) (board_block x)
  board-lies = after-records 0 (board_place x) (board_block x) (omega arith) (lies-front (board_block x) (x.further ++ rest))

  pub further-lies : Lies (laid x check covers ++ rest) (further_place x) x.further
  further-lies =
      after-records board_length (further_place x) x.further (omega arith)
      (lies-after (board_block x) (x.further ++ rest) x.further 0 board_length (omega (arith, board-length x.board)) (lies-front x.further rest))
