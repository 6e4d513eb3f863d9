-- The heads of the first three structures of an image, and with their Lengths where each one lies and ends: a head is read in its block, whatever the check
-- fields are and whatever bytes follow the image. Assumes nothing.
use Rattle.std.specs.Prelude.{ℕ, ◌+◌, ◌%◌, ◌≤◌, ◌<◌, List, ◌++◌, ◌≡◌}
use Rattle.std.proofs.Math.Path.{refl, ap}
use Rattle.std.proofs.Common.{sym, ◌∙◌, add-zero}
use native.Mathlib.Omega.{arith}
use Rattle.std.proofs.Math.ListN.{length}
use Rattle.board_layout.specs.Layout.{signature_at, major_at, minor_at, length_at, struct_len, end_at, round16, next, header_length, map_at, board_at, later_at, records}
use Rattle.board_layout.specs.Places.{VerMajor, VerMinor, Length, head_size, StructLen}
use Rattle.board_layout.specs.declared.Records.TheVariants.{Map}
use Rattle.board_layout.proofs.laws.Layout.{next-round, round-same, header-size}
use Rattle.board_writer.specs.Image.{map_length, image_length, laid, board_length, map_place, record_place, board_place, further_place}
use Rattle.board_writer.specs.Parts.{Parts, record_count}
use Rattle.board_writer.proofs.laws.Blocks.{header-lies, map-lies, board-lies}
use Rattle.board_writer.proofs.laws.Length.{header_block, map_block, board_block, header-long}
use Rattle.octets.proofs.laws.Lies.{Lies, le16-in, le32-in, le64-in}
use Rattle.board_writer.proofs.laws.MapRecords.{record-places}
use Rattle.chain.specs.Fill.{tab}
use Rattle.kinds.specs.Signatures.{eeprom, eepr_map, brd_info}
use Rattle.octets.specs.Bytes.{spelled, le16, le32, le64}
use Rattle.octets.proofs.laws.Spelled.{little-spelled}

-- the head of the structure at p: its signature g, VerMajor 1, VerMinor 0 and its Length n
pub record Head (s : List ℕ) (p g n : ℕ) : Type 0 where
  pub signature : signature_at s p ≡ g
  pub major : major_at s p ≡ 1
  pub minor : minor_at s p ≡ 0
  pub length : length_at s p ≡ n

-- a block's head, where the block lies
head-in : (s : List ℕ) (p : ℕ) (h : List ℕ) (g n : ℕ) → Lies s p h → head_size ≤ length h → Head h 0 g n → Head s p g n
head-in s p h g n lies size head =
    record {
      signature = ap (λ (q : ℕ). signature_at s q) (sym (add-zero p)) ∙ le64-in s p h lies 0 (omega arith) ∙ head.signature;
      major = le16-in s p h lies VerMajor (omega arith) ∙ head.major;
      minor = le16-in s p h lies VerMinor (omega arith) ∙ head.minor;
      length = le32-in s p h lies Length (omega arith) ∙ head.length;
    }

-- a structure of this Length that ends on a boundary: the next one starts there
next-is : (s : List ℕ) (p n : ℕ) → length_at s p ≡ n → head_size ≤ n → (p + n) % 16 ≡ 0 → next s p ≡ p + n
unfolding end_at
next-is s p n e h whole =
    next-round s p (omega arith) ∙ ap (λ (m : ℕ). round16 (p + m)) e ∙ round-same (p + n) whole

module _ (x : Parts) (check covers : ℕ) (rest : List ℕ) (small : image_length x < 0x1_0000_0000) where
  abbrev s : List ℕ
  s = laid x check covers ++ rest

  -- ---- the heads
  pub header-head : Head s 0 eeprom (header_length x.header)
  unfolding spelled le16 le32 le64 tab
  header-head =
      let h = header-size x.header in
      head-in s 0 (header_block x check covers) eeprom (header_length x.header) (header-lies x check covers rest) (omega (arith, header-long x check covers))
      (record { signature = refl; major = refl; minor = refl; length = little-spelled 4 (header_length x.header) (omega (arith, h.1)) })

  pub map-head : Head s (map_place x) eepr_map (map_length x)
  unfolding spelled le16 le32 le64 tab
  map-head =
      head-in s (map_place x) (map_block x) eepr_map (map_length x) (map-lies x check covers rest) (omega arith)
      (record { signature = refl; major = refl; minor = refl; length = little-spelled 4 (map_length x) (omega arith) })

  pub board-head : Head s (board_place x) brd_info board_length
  unfolding spelled le16 le32 le64 tab
  board-head =
      head-in s (board_place x) (board_block x) brd_info board_length (board-lies x check covers rest) (omega arith)
      (record { signature = refl; major = refl; minor = refl; length = refl })

  -- ---- the places
  pub struct-len-is : struct_len s ≡ image_length x
  unfolding spelled le32 tab
  struct-len-is =
      le32-in s 0 (header_block x check covers) (header-lies x check covers rest) StructLen (omega (arith, header-long x check covers))
      ∙ little-spelled 4 (image_length x) (omega arith)

  pub map-at : map_at s ≡ map_place x
  unfolding map_at
  map-at =
      let h = header-size x.header in
      next-is s 0 (header_length x.header) header-head.length (omega (arith, h.0)) (omega (arith, h.2)) ∙ omega arith

  pub board-at : board_at s ≡ board_place x
  unfolding board_at
  board-at = ap (next s) map-at ∙ next-is s (map_place x) (map_length x) map-head.length (omega arith) (omega (arith, (header-size x.header).2))

  pub board-end : end_at s (board_at s) ≡ further_place x
  unfolding end_at
  board-end = ap (end_at s) board-at ∙ omega (arith, board-head.length)

  -- the later structures start where the further bytes do
  pub later-at : later_at s ≡ further_place x
  unfolding later_at
  later-at =
      ap (next s) board-at ∙ next-is s (board_place x) board_length board-head.length (omega arith) (omega (arith, (header-size x.header).2)) ∙ omega arith

  -- record k of the map starts 30h + 20h k past the map's start
  pub records-at : records Map s (map_at s) ≡ tab (record_place x) (record_count x)
  records-at = ap (records Map s) map-at ∙ record-places s (map_place x) (record_count x) (omega (arith, map-head.length))
