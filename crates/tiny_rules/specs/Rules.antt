-- Rules 1 to 11, each as the smallest place where it is broken. Paper 01, "Refusal numbers and their order". Assumes nothing.
use Rattle.std.specs.Prelude.{ℕ, ◌+◌, Bool, not, cond, ◌&&◌, ◌||◌, List, eqb, ltb, leb, length, take, None}
use Rattle.chain.specs.Chain.{range}
use Rattle.chain.specs.First.{first, when, or_else}
use Rattle.chain.specs.Found.{Found}
use Rattle.crc.specs.Crc8.{crc8}
use Rattle.kinds.specs.Kinds.{listed}
use Rattle.kinds.specs.declared.Kind.TheVariants.{Tag}
use Rattle.kinds.specs.declared.Kinds.{Kinds}
use Rattle.octets.specs.Bytes.{byte, le16}
use Rattle.octets.specs.Label.{is_text}
use Rattle.tiny_layout.specs.Layout.{total, check_place, data_at, next, items}
use Rattle.tiny_layout.specs.Pool.{is_known, is_of, pool}
use Rattle.tiny_layout.specs.Strings.{is_marked, letter, texts}
use Rattle.tiny_layout.specs.Tags.{shape_of, index_count}
use Rattle.tiny_layout.specs.declared.Shape.{Shape}

-- 1: under 4 bytes lent
unfoldable pub rule1 : List ℕ → Found
rule1 s = when (ltb (length s) 4) 0

-- 2: magic
unfoldable pub rule2 : List ℕ → Found
rule2 s = when (not (eqb (byte s 0) 0x56)) 0

-- 3: version
unfoldable pub rule3 : List ℕ → Found
rule3 s = when (not (eqb (byte s 1) 0x02)) 1

-- 4: L below 4 or above what is lent
unfoldable pub rule4 : List ℕ → Found
rule4 s = when (ltb (total s) 4 || ltb (length s) (total s)) 2

-- 5: CRC-8 over the first L - 1 bytes
unfoldable pub rule5 : List ℕ → Found
rule5 s = when (not (eqb (byte s (check_place s)) (crc8 (take (check_place s) s)))) (check_place s)

-- 6: an item, or its length byte, passes L - 1
abbrev pub passes : List ℕ → ℕ → Found
passes s p = when (ltb (check_place s) (data_at s p) || ltb (check_place s) (next s p)) p

unfoldable pub rule6 : List ℕ → Found
rule6 s = first (passes s) (items s)

-- 7: long tag 00
abbrev pub reserved : List ℕ → ℕ → Found
reserved s p = when (eqb (byte s p) 0x00) p

unfoldable pub rule7 : List ℕ → Found
rule7 s = first (reserved s) (items s)

-- 8: listed pool is not the last item. (An item that ends before the check byte has another behind it.)
abbrev pub early : Kinds → List ℕ → ℕ → Found
early k s p = when (is_of k s 0x01 p && ltb (next s p) (check_place s)) p

unfoldable pub rule8 : Kinds → List ℕ → Found
rule8 k s = first (early k s) (items s)

-- 9: listed pool: a byte's low seven bits not 20h to 7Eh; last byte unmarked
abbrev pub no_character : List ℕ → ℕ → Bool
no_character s p = not (is_text (letter (byte s p)))

abbrev pub end_unmarked : List ℕ → ℕ → ℕ → Bool
end_unmarked s to p = eqb (p + 1) to && not (is_marked (byte s p))

abbrev pub unfit : List ℕ → ℕ → ℕ → Found
unfit s to p = when (no_character s p || end_unmarked s to p) p

unfoldable pub rule9 : Kinds → List ℕ → Found
rule9 k s = first (unfit s (pool k s).to) (range (pool k s).from (pool k s).to)

-- a rule on the data of the known items: by the row of their tag, and where their data begin
abbrev pub on_known : Kinds → List ℕ → (Shape → ℕ → Found) → ℕ → Found
on_known k s rule p = cond (is_known k s p) (rule (shape_of (byte s p)) (data_at s p)) None

-- 10: pool listed, known item's index not below the string count (0 without a pool)
abbrev pub beyond : List ℕ → ℕ → ℕ → Found
beyond s count p = when (leb count (byte s p)) p

unfoldable pub bad_index : List ℕ → ℕ → Shape → ℕ → Found
bad_index s count shape start = first (beyond s count) (range start (start + index_count shape))

unfoldable pub rule10 : Kinds → List ℕ → Found
rule10 k s =
    cond (listed k (Tag 0x01)) (first (on_known k s (bad_index s (length (texts s (pool k s))))) (items s)) None

-- 11: known item: major, minor, characters or batch out of range; the field's first byte
-- "Major 00h to 63h is '00' to '99'; 80h to 99h is '0A' to '0Z'."
unfoldable pub is_major : ℕ → Bool
is_major m = leb m 0x63 || leb 0x80 m && leb m 0x99

-- "Minor is 0 to 99."
abbrev pub is_minor : ℕ → Bool
is_minor m = leb m 99

-- "Batch is 0 to 9999."
abbrev pub is_batch : ℕ → Bool
is_batch b = leb b 9999

-- "serial index, part index, major, minor, two characters"
unfoldable pub bad_revision : List ℕ → ℕ → Found
bad_revision s start =
    or_else (when (not (is_major (byte s (start + 2)))) (start + 2))
    (or_else (when (not (is_minor (byte s (start + 3)))) (start + 3))
    (when (not (is_text (byte s (start + 4)) && is_text (byte s (start + 5)))) (start + 4)))

-- "as 61, but batch number (two bytes) at the end"
unfoldable pub bad_batch : List ℕ → ℕ → Found
bad_batch s start = when (not (is_batch (le16 s (start + 6)))) (start + 6)

abbrev pub bad_field : List ℕ → Shape → ℕ → Found
bad_field s Shape.Pool start = None
bad_field s Shape.Serial start = None
bad_field s Shape.Flags start = None
bad_field s Shape.Address start = None
bad_field s Shape.Identity start = bad_revision s start
bad_field s Shape.Batched start = or_else (bad_revision s start) (bad_batch s start)
bad_field s Shape.Other start = None

unfoldable pub rule11 : Kinds → List ℕ → Found
rule11 k s = first (on_known k s (bad_field s)) (items s)
