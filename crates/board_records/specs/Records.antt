-- What rules 30, 34, 32 and 33 say of one record, of a map or of GPIO data. Checks stand in ascending order of place; products are exact. Assumes nothing.
use Rattle.std.specs.Prelude.{ℕ, ◌+◌, ◌-◌, ◌*◌, ◌/◌, Bool, not, cond, ◌||◌, List, [], ◌∷◌, eqb, ltb, leb, None}
use Rattle.board_layout.specs.Layout.{end_at}
use Rattle.board_layout.specs.Places.{BlkLength, MapData, MapLabel, MapLength, MapOffset, Address, map_record_size, GpioLabel, GpioLength, DataSize, GpioDataType, gpio_record_size}
use Rattle.board_layout.specs.declared.Records.{Records}
use Rattle.board_layout.specs.declared.Records.TheVariants.{Map, Gpio}
use Rattle.chain.specs.Chain.{chain, ahead}
use Rattle.chain.specs.First.{checks, first, when}
use Rattle.chain.specs.Found.{Found}
use Rattle.octets.specs.Bytes.{byte, le32}
use Rattle.octets.specs.Label.{bad_label}
use Rattle.octets.specs.Runs.{same_run, nonzero}

-- ---- 30: label; record Length, Offset; Address over 7Fh
-- the number of the record at r
abbrev pub map_number : ℕ → ℕ → ℕ
map_number m r = (r - (m + MapData)) / map_record_size

-- the record at r of the map at m. "A map record's Length is the record's own size, 20h. Record k has Offset k x BlkLength."
unfoldable pub bad_map_record : List ℕ → ℕ → ℕ → Found
bad_map_record s m r =
    checks
    (bad_label s (r + MapLabel)
    ∷ when (not (eqb (le32 s (r + MapLength)) map_record_size)) (r + MapLength)
    ∷ when (not (eqb (le32 s (r + MapOffset)) (map_number m r * le32 s (m + BlkLength)))) (r + MapOffset)
    ∷ when (ltb 0x7F (byte s (r + Address))) (r + Address)
    ∷ [])

-- ---- 34: two map records whose sixteen label bytes are equal
-- the records of the map at m before the one at r
abbrev pub earlier : ℕ → ℕ → List ℕ
earlier m r = chain (ahead map_record_size) r (m + MapData)

-- the sixteen label bytes of the records at e and r are equal
abbrev pub same_label : List ℕ → ℕ → ℕ → Bool
same_label s e r = same_run s (e + MapLabel) s (r + MapLabel) 16

-- "the first label that equals an earlier one": the label of the record at r, where any earlier record of the map at m has the same
unfoldable pub repeated_label : List ℕ → ℕ → ℕ → Found
repeated_label s m r = first (λ e. when (same_label s e r) (r + MapLabel)) (earlier m r)

-- ---- 33: GPIO record Length, label, DataSize not 1, 2, 4; DataType over 4
-- 1, 2 or 4
abbrev pub data_size_fits : ℕ → Bool
data_size_fits n = eqb n 1 || eqb n 2 || eqb n 4

-- the GPIO record at r
unfoldable pub bad_gpio_record : List ℕ → ℕ → Found
bad_gpio_record s r =
    checks
    (bad_label s (r + GpioLabel)
    ∷ when (not (eqb (le32 s (r + GpioLength)) gpio_record_size)) (r + GpioLength)
    ∷ when (not (data_size_fits (byte s (r + DataSize)))) (r + DataSize)
    ∷ when (ltb 4 (byte s (r + GpioDataType))) (r + GpioDataType)
    ∷ [])

-- ---- 32: a reserved field. "A field not wholly within its structure's Length is not read"
-- the first byte that is not zero, from one offset up to another of what starts at p; looked for only if the field ends by `end`, where the structure ends
abbrev pub field_used : List ℕ → ℕ → ℕ → ℕ → ℕ → Found
field_used s from to end p = cond (leb (p + to) end) (nonzero s p from to) None

-- the Reserved field of a record: a map record's from 19h up to 20h, a GPIO record's from 22h up to 30h
abbrev pub record_from : Records → ℕ
record_from Map = 0x19
record_from Gpio = 0x22

abbrev pub record_to : Records → ℕ
record_to Map = 0x20
record_to Gpio = 0x30

-- that of the record at r in the structure at p
abbrev pub record_used : Records → List ℕ → ℕ → ℕ → Found
record_used which s p r = field_used s (record_from which) (record_to which) (end_at s p) r
