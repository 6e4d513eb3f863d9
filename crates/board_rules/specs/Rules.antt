-- Rules 20 to 34, each as the smallest place where it is broken. Paper 01, "Refusal numbers and their order", and paper 02, R-2 and R-6. What 26 and 29 to 34
-- say of one structure or record is in the crates board_fields and board_records. Assumes nothing.
use Rattle.std.specs.Prelude.{ℕ, ◌+◌, ◌-◌, Bool, not, cond, ◌&&◌, ◌||◌, List, [], ◌∷◌, eqb, ltb, leb, length, take, Some, None}
use Rattle.board_fields.specs.Hash.{bad_hash}
use Rattle.board_fields.specs.Heads.{bad_map_head, bad_board_head, bad_prom_sig_head}
use Rattle.board_fields.specs.Inside.{bad_inside}
use Rattle.board_fields.specs.Map.{bad_map, bad_board_type}
use Rattle.board_fields.specs.Reserved.{reserved_used}
use Rattle.board_layout.specs.Layout.{signature_at, major_at, length_at, shape_at, struct_len, end_at, next, structures, header_length, map_at, board_at, later_at, records}
use Rattle.board_layout.specs.Places.{head_size, StructLen, Crc32, CrcLength, EepromSig}
use Rattle.board_layout.specs.Shapes.{knows}
use Rattle.board_layout.specs.declared.Header.TheVariants.{Short, Long}
use Rattle.board_layout.specs.declared.Records.TheVariants.{Map}
use Rattle.board_layout.specs.declared.Shape.{Shape}
use Rattle.board_records.specs.Records.{repeated_label}
use Rattle.chain.specs.Chain.{chain}
use Rattle.chain.specs.First.{checks, first, when}
use Rattle.chain.specs.Found.{Found}
use Rattle.crc.specs.Blank.{blank}
use Rattle.crc.specs.Crc32.{crc32}
use Rattle.kinds.specs.Signatures.{eeprom, eepr_map, brd_info, prom_sig}
use Rattle.kinds.specs.declared.Kinds.{Kinds}
use Rattle.octets.specs.Bytes.{byte, le32}
use Rattle.octets.specs.Label.{dollar}
use Rattle.octets.specs.Runs.{nonzero}

-- 20: under 20h or over 65,536 bytes lent
unfoldable pub rule20 : List ℕ → Found
rule20 s = checks (when (ltb (length s) (header_length Short)) 0 ∷ when (ltb 65536 (length s)) 0 ∷ [])

-- "Both 20h and 30h are now good." Only rule 21 asks which Lengths these are; all else reads the header's
abbrev pub is_header_length : ℕ → Bool
is_header_length n = eqb n (header_length Short) || eqb n (header_length Long)

-- 21: `$Eeprom$` signature, VerMajor 1 or Length 20h or 30h
unfoldable pub rule21 : List ℕ → Found
rule21 s =
    checks
    (when (not (eqb (signature_at s 0) eeprom)) 0
    ∷ when (not (eqb (major_at s 0) 1)) 0
    ∷ when (not (is_header_length (length_at s 0))) 0
    ∷ [])

-- 22: StructLen under the header's Length, or above what is lent
unfoldable pub rule22 : List ℕ → Found
rule22 s = checks (when (ltb (struct_len s) (length_at s 0)) StructLen ∷ when (ltb (length s) (struct_len s)) StructLen ∷ [])

-- 23: where a structure is due: under 16 bytes left before StructLen, no '$' first, Length under 16, or end past StructLen; its start.
-- "at an end that is not StructLen, another is due": where that one would not start before StructLen, no bytes are left for it
abbrev pub overdue : List ℕ → ℕ → Found
overdue s p = when (not (eqb (end_at s p) (struct_len s)) && leb (struct_len s) (next s p)) (next s p)

unfoldable pub misplaced : List ℕ → ℕ → Found
misplaced s p =
    checks
    (when (ltb (struct_len s) (p + head_size)) p
    ∷ when (not (eqb (byte s p) dollar)) p
    ∷ when (ltb (length_at s p) head_size) p
    ∷ when (ltb (struct_len s) (end_at s p)) p
    ∷ overdue s p
    ∷ [])

unfoldable pub rule23 : List ℕ → Found
rule23 s = first (misplaced s) (structures s)

-- 24: nonzero byte between structures: from the end of one that is not the last up to the next; the byte
unfoldable pub gap_used : List ℕ → ℕ → Found
gap_used s p = cond (eqb (end_at s p) (struct_len s)) None (nonzero s (end_at s p) 0 (next s p - end_at s p))

unfoldable pub rule24 : List ℕ → Found
rule24 s = first (gap_used s) (structures s)

-- 25: second not `$EeprMap`, third not `$BrdInfo`; its start, or StructLen if absent
unfoldable pub expected : List ℕ → ℕ → ℕ → Found
expected s g p = cond (ltb p (struct_len s)) (when (not (eqb (signature_at s p) g)) p) (Some (struct_len s))

-- a later one of these or `$Eeprom$`, or `$PromSig` not last. (A `$PromSig` as second or third is not what is expected there.)
abbrev pub is_early : ℕ → Bool
is_early g = eqb g eepr_map || eqb g brd_info || eqb g eeprom

unfoldable pub out_of_order : List ℕ → ℕ → Found
out_of_order s p =
    checks
    (when (is_early (signature_at s p)) p
    ∷ when (eqb (signature_at s p) prom_sig && not (eqb (end_at s p) (struct_len s))) p
    ∷ [])

unfoldable pub rule25 : List ℕ → Found
rule25 s =
    checks
    (expected s eepr_map (map_at s)
    ∷ expected s brd_info (board_at s)
    ∷ first (out_of_order s) (chain (next s) (struct_len s) (later_at s))
    ∷ [])

-- the place of `$PromSig`, and a rule on it, if there is one
abbrev pub is_prom_sig : List ℕ → ℕ → Found
is_prom_sig s p = when (eqb (signature_at s p) prom_sig) p

unfoldable pub prom_sig_at : List ℕ → Found
prom_sig_at s = first (is_prom_sig s) (structures s)

abbrev pub on_found : (ℕ → Found) → Found → Found
on_found rule (Some p) = rule p
on_found rule None = None

-- 26: VerMajor and Length of map, board and `$PromSig`
unfoldable pub rule26 : List ℕ → Found
rule26 s =
    checks (bad_map_head s (map_at s) ∷ bad_board_head s (board_at s) ∷ on_found (bad_prom_sig_head s) (prom_sig_at s) ∷ [])

-- "The expected CrcLength is StructLen, or the place of `$PromSig` plus 20h."
abbrev pub covered_up_to : ℕ → Found → ℕ
covered_up_to end (Some p) = p + EepromSig
covered_up_to end None = end

unfoldable pub covered : List ℕ → ℕ
covered s = covered_up_to (struct_len s) (prom_sig_at s)

-- "Crc32 is the common CRC-32 .. over the expected CrcLength, its own four bytes counted as zero."
unfoldable pub check_over : List ℕ → ℕ → ℕ
check_over s n = crc32 (blank Crc32 4 (take n s))

-- 27: Crc32; CrcLength
unfoldable pub rule27 : List ℕ → Found
rule27 s =
    checks
    (when (not (eqb (le32 s Crc32) (check_over s (covered s)))) Crc32
    ∷ when (not (eqb (le32 s CrcLength) (covered s))) CrcLength
    ∷ [])

-- 28: `$BrdInfo` ends past 4,096; its start
unfoldable pub rule28 : List ℕ → Found
rule28 s = when (ltb 4096 (end_at s (board_at s))) (board_at s)

-- 29: HashType and Length of `$PromSig`
unfoldable pub rule29 : List ℕ → Found
rule29 s = on_found (bad_hash s) (prom_sig_at s)

-- 30: the map's fields and records
unfoldable pub rule30 : List ℕ → Found
rule30 s = bad_map s (map_at s)

-- 34: two map records whose sixteen label bytes are equal; the first label that equals an earlier one
unfoldable pub rule34 : List ℕ → Found
rule34 s = first (repeated_label s (map_at s)) (records Map s (map_at s))

-- 31: BoardType
unfoldable pub rule31 : List ℕ → Found
rule31 s = bad_board_type s (board_at s)

-- a rule on the known structures, by their table
abbrev pub on_known : Kinds → List ℕ → (ℕ → Shape → Found) → ℕ → Found
on_known k s rule p = cond (knows k (shape_at s p)) (rule p (shape_at s p)) None

-- 32: reserved bytes of the known structures
unfoldable pub rule32 : Kinds → List ℕ → Found
rule32 k s = first (on_known k s (reserved_used s)) (structures s)

-- 33: fixed parts and fields of the known structures
unfoldable pub rule33 : Kinds → List ℕ → Found
rule33 k s = first (on_known k s (bad_inside s)) (structures s)
