-- Rules 30 and 31. 30: "map: label; BlkLength 0; PartSize not n x BlkLength or below StructLen; Master over 1; Speed over 3; record Length, Offset; Address over
-- 7Fh", at the field, or the label's bad byte. 31: "BoardType over 1". Checks stand in ascending order of place; products are exact. Assumes nothing.
use Rattle.std.specs.Prelude.{ℕ, ◌+◌, ◌*◌, not, List, [], ◌∷◌, eqb, ltb}
use Rattle.board_layout.specs.Layout.{struct_len, records, map_count}
use Rattle.board_layout.specs.Places.{PartLabel, BlkLength, PartSize, Master, Speed, BoardType}
use Rattle.board_layout.specs.declared.Records.TheVariants.{Map}
use Rattle.board_records.specs.Records.{bad_map_record}
use Rattle.chain.specs.First.{checks, first, or_else, when}
use Rattle.chain.specs.Found.{Found}
use Rattle.octets.specs.Bytes.{byte, le32}
use Rattle.octets.specs.Label.{bad_label}

-- the fields of the map at m
unfoldable pub bad_map_field : List ℕ → ℕ → Found
bad_map_field s m =
    checks
    (bad_label s (m + PartLabel)
    ∷ when (eqb (le32 s (m + BlkLength)) 0) (m + BlkLength)
    ∷ when (not (eqb (le32 s (m + PartSize)) (map_count s m * le32 s (m + BlkLength)))) (m + PartSize)
    ∷ when (ltb (le32 s (m + PartSize)) (struct_len s)) (m + PartSize)
    ∷ when (ltb 1 (byte s (m + Master))) (m + Master)
    ∷ when (ltb 3 (byte s (m + Speed))) (m + Speed)
    ∷ [])

-- 30
unfoldable pub bad_map : List ℕ → ℕ → Found
bad_map s m = or_else (bad_map_field s m) (first (bad_map_record s m) (records Map s m))

-- 31
unfoldable pub bad_board_type : List ℕ → ℕ → Found
bad_board_type s b = when (ltb 1 (byte s (b + BoardType))) (b + BoardType)
