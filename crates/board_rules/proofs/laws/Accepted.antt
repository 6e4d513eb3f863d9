-- What acceptance gives: no rule of the table is broken, and what the rules say in numbers of what is lent, the header, the structures, the map with its
-- records, the board and the check. Assumes nothing.
use Rattle.std.specs.Prelude.{ℕ, ◌+◌, ◌*◌, ◌%◌, ◌≤◌, ◌<◌, not, List, [], ◌∷◌, ◌⊎◌, eqb, ltb, length, Some, None, Ok}
use Rattle.std.proofs.Math.Path.{◌≡◌, ap}
use Rattle.std.proofs.Common.{arith}
use Rattle.board_layout.specs.Layout.{signature_at, major_at, length_at, struct_len, end_at, next, structures, header_length, map_at, board_at, later_at, records, map_count}
use Rattle.board_layout.specs.Places.{Crc32, CrcLength, MapData, map_record_size}
use Rattle.board_layout.specs.Shapes.{reserved_from, reserved_to}
use Rattle.board_layout.specs.declared.Header.{Header}
use Rattle.board_layout.specs.declared.Header.TheVariants.{Short}
use Rattle.board_layout.specs.declared.Records.TheVariants.{Map}
use Rattle.board_layout.specs.declared.Shape.TheVariants.{Eeprom}
use Rattle.board_rules.specs.Judged.{rules, judged}
use Rattle.board_rules.specs.Rules.{rule20, rule21, rule22, rule23, rule25, rule26, covered, check_over, rule27, rule28}
use Rattle.board_rules.proofs.laws.Heads as heads
use Rattle.board_rules.proofs.laws.Order as order
use Rattle.board_rules.proofs.laws.Walk.{Fits}
use Rattle.board_rules.proofs.laws.Walk as walk
use Rattle.chain.specs.All.{All}
use Rattle.chain.specs.Chain.{chain}
use Rattle.chain.specs.First.{when}
use Rattle.chain.specs.Nth.{nth}
use Rattle.chain.proofs.laws.Checks.{checks-none, kept-equal, kept-under}
use Rattle.kinds.specs.Signatures.{eeprom, eepr_map, brd_info}
use Rattle.kinds.specs.declared.Kinds.{Kinds}
use Rattle.octets.specs.Bytes.{le32}
use Rattle.verdict.specs.Answers.{Judged}
use Rattle.verdict.proofs.laws.Accepted.{Clear, clear, after}

module _ (k : Kinds) (s : List ℕ) (n : ℕ) (e : judged k s ≡ Ok n) where
  -- no rule is broken
  pub accepted-clear : Clear (rules k s)
  unfolding judged
  accepted-clear = clear (rules k s) (Ok (length (structures s))) n e

  -- the answer counts the structures
  pub accepted-count : length (structures s) ≡ n
  unfolding judged
  accepted-count =
      let d : ◌≡◌ {A = Judged} (Ok (length (structures s))) (Ok n) = after (rules k s) (Ok (length (structures s))) n e in cc

  -- ---- the rules that the laws below use
  kept21 : rule21 s ≡ None
  kept21 = accepted-clear.1.0

  kept22 : rule22 s ≡ None
  kept22 = accepted-clear.1.1.0

  kept23 : rule23 s ≡ None
  kept23 = accepted-clear.1.1.1.0

  kept25 : rule25 s ≡ None
  kept25 = accepted-clear.1.1.1.1.1.0

  kept26 : rule26 s ≡ None
  kept26 = accepted-clear.1.1.1.1.1.1.0

  -- ---- rules 20 to 22
  -- what is lent: from 20h to 65,536 bytes
  pub lent-within : (header_length Short ≤ length s) × (length s ≤ 65536)
  unfolding rule20
  lent-within =
      let t = checks-none (when (ltb (length s) (header_length Short)) 0 ∷ when (ltb 65536 (length s)) 0 ∷ []) accepted-clear.0 in
      (kept-under (length s) (header_length Short) 0 t.0, kept-under 65536 (length s) 0 t.1.0)

  -- StructLen covers the header, and is not above what is lent
  pub struct-len-within : (length_at s 0 ≤ struct_len s) × (struct_len s ≤ length s)
  struct-len-within = heads.struct-len-within s kept22

  -- the header is a `$Eeprom$` of VerMajor 1, with the Length of one of the two headers
  pub header-is : (signature_at s 0 ≡ eeprom) × (major_at s 0 ≡ 1) × ((h : Header) × (length_at s 0 ≡ header_length h))
  header-is = heads.header-is s kept21

  -- all that is used of that Length: its bounds, and how its Reserved row lies in it
  pub header-length : (0x20 ≤ length_at s 0) × (length_at s 0 ≤ 0x30) × (length_at s 0 % 16 ≡ 0)
  header-length = heads.header-length s kept21

  pub header-covers : (reserved_to Eeprom ≤ length_at s 0) ⊎ (length_at s 0 ≡ reserved_from Eeprom)
  header-covers = heads.header-covers s kept21

  -- so StructLen is at least 20h
  pub struct-len-least : 0x20 ≤ struct_len s
  struct-len-least = omega (arith, header-length.0, struct-len-within.0)

  -- the map starts where the header ends
  pub map-place : map_at s ≡ length_at s 0
  map-place = heads.map-place s kept21

  -- ---- rule 25
  -- the second structure is the map
  pub map-second : (map_at s < struct_len s) × (signature_at s (map_at s) ≡ eepr_map)
  map-second = order.map-second s kept25

  -- the third is the board
  pub board-third : (board_at s < struct_len s) × (signature_at s (board_at s) ≡ brd_info)
  board-third = order.board-third s kept25

  -- so the structures are these three, and those after them
  pub structures-are : structures s ≡ 0 ∷ map_at s ∷ board_at s ∷ chain (next s) (struct_len s) (later_at s)
  structures-are = walk.structures-are s kept25

  -- ---- rules 23 and 24
  -- each structure has its room, '$' and head, ends by StructLen, and is the last or has another after it
  pub structures-fit : All (Fits s) (structures s)
  structures-fit = walk.walk-fits s kept23

  -- so do the header, the map and the board
  pub three-fit : Fits s 0 × Fits s (map_at s) × Fits s (board_at s)
  three-fit = walk.first-three s (Fits s) kept25 structures-fit

  -- the bytes between them are zero
  pub gaps-zero : All (walk.GapZero s) (structures s)
  gaps-zero = walk.gap-zero s accepted-clear.1.1.1.1.0

  -- ---- rules 26 and 28
  -- the map's Length is 30h + 20h n
  pub map-head : (major_at s (map_at s) ≡ 1) × (length_at s (map_at s) ≡ MapData + map_count s (map_at s) * map_record_size)
  map-head = let h = heads.map-head s kept26 in (h.0, h.1)

  -- n is the count of its records
  pub record-count : length (records Map s (map_at s)) ≡ map_count s (map_at s)
  record-count = heads.record-count s kept26

  -- record i starts at 30h + 20h i
  pub record-place : (i : ℕ) → i < map_count s (map_at s) → nth (records Map s (map_at s)) i ≡ Some (map_at s + MapData + i * map_record_size)
  record-place = heads.record-place s kept26

  -- each record is whole within the map
  pub records-fit : All (λ r. (map_at s + MapData ≤ r) × (r + map_record_size ≤ end_at s (map_at s))) (records Map s (map_at s))
  records-fit = heads.records-fit s kept26

  -- the board's Length is 60h
  pub board-head : (major_at s (board_at s) ≡ 1) × (length_at s (board_at s) ≡ 0x60)
  board-head = heads.board-head s kept26

  -- the board starts where the map ends
  pub board-place : board_at s ≡ end_at s (map_at s)
  board-place = heads.board-place s kept26

  -- it ends within the first 4,096 bytes
  pub board-ends : (end_at s (board_at s) ≡ board_at s + 0x60) × (end_at s (board_at s) ≤ 4096)
  unfolding end_at rule28
  board-ends = (
    ap (λ (x : ℕ). board_at s + x) board-head.1,
    kept-under 4096 (board_at s + length_at s (board_at s)) (board_at s) accepted-clear.1.1.1.1.1.1.1.1.0,
  )

  -- so the map has from 1 to 122 records
  pub record-bounds : (1 ≤ map_count s (map_at s)) × (map_count s (map_at s) ≤ 122)
  record-bounds = (
    (heads.map-head s kept26).2,
    omega (arith, board-ends.0, board-ends.1, board-place, heads.map-ends s kept26, map-place, header-length.0),
  )

  -- ---- rules 21 and 25: a `$PromSig` is a later structure, and the last
  pub prom-sig-last : All (heads.Last s) (structures s)
  prom-sig-last = heads.prom-sig-last s kept21 kept25

  -- ---- rule 27
  -- the bytes that Crc32 covers lie within StructLen
  pub covered-within : (0x20 ≤ covered s) × (covered s ≤ struct_len s)
  covered-within = heads.covered-within s kept21 kept22 kept23 kept26

  -- Crc32 is theirs, and CrcLength is how many they are
  pub check-holds : (le32 s Crc32 ≡ check_over s (covered s)) × (le32 s CrcLength ≡ covered s)
  unfolding rule27
  check-holds =
      let t = checks-none (when (not (eqb (le32 s Crc32) (check_over s (covered s)))) Crc32 ∷ when (not (eqb (le32 s CrcLength) (covered s))) CrcLength ∷ [])
      accepted-clear.1.1.1.1.1.1.1.0 in
      (kept-equal (le32 s Crc32) (check_over s (covered s)) Crc32 t.0, kept-equal (le32 s CrcLength) (covered s) CrcLength t.1.0)
