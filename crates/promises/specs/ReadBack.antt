-- Reading back by the reader's own calls. Demand 2: "What the writers write is accepted and reads back as given": asked by number about what was written, a reader
-- shows what was given, items, strings, name and records. What is expected is said of the bytes given alone, and of no byte of the image. Demand2 has `TinyShows`
-- and `BoardShows` beside `parts_of`; they are proved in proofs/ReadBack. Assumes nothing.
use Rattle.std.specs.Prelude.{ℕ, Option, Some, None, ◌+◌, ◌-◌, ◌<◌, ◌≤◌, true, cond, List, [], ◌∷◌, ◌++◌, ◌≡◌, ltb, length, get_or, drop}
use Rattle.board.specs.Values.{counted, field_values, map_record_values}
use Rattle.board.specs.declared.Fields.{Fields}
use Rattle.board_layout.specs.Places.{head_size}
use Rattle.board_layout.specs.Layout.{header_length}
use Rattle.board_writer.specs.Image.{map_length, board_length, map_place, board_place}
use Rattle.board_writer.specs.Parts as board-parts
use Rattle.board_writer.specs.Parts.{record_count}
use Rattle.board_writer.specs.Shown.{header_shown, map_shown, record_shown}
use Rattle.kinds.specs.Kinds.{listed}
use Rattle.kinds.specs.Signatures.{eeprom, eepr_map, brd_info}
use Rattle.kinds.specs.declared.Kind.TheVariants.{Tag, Signature}
use Rattle.kinds.specs.declared.Kinds.{Kinds}
use Rattle.octets.specs.Bytes.{byte}
use Rattle.octets.specs.Rows as rows
use Rattle.octets.specs.Rows.{Field, Value, shown_rows}
use Rattle.promises.specs.Answers.{Answers}
use Rattle.promises.specs.Hidden.{has_pool, has_serial}
use Rattle.promises.specs.Rows.{labelled}
use Rattle.reader.specs.Values.{ItemValues, tiny-fields, board-fields, not_known}
use Rattle.reader.specs.declared.Format.TheVariants.{Tiny, Board}
use Rattle.tiny.specs.Values as tiny
use Rattle.tiny_layout.specs.Strings.{split}
use Rattle.tiny_layout.specs.Tables.{table}
use Rattle.tiny_layout.specs.Tags.{shape_of}
use Rattle.tiny_writer.specs.Image as tiny-parts
use Rattle.tiny_writer.specs.Image.{pool_items}
use Rattle.tiny_writer.specs.Run.{run_items}
use Rattle.verdict.specs.Said.{Said, says, refused}

-- ---- tiny images
-- the items given, each as tag, length byte and data: how many, and number i
abbrev pub given_count : tiny-parts.Parts → ℕ
given_count x = length (run_items x.run)

abbrev pub given_item : tiny-parts.Parts → ℕ → List ℕ
given_item x i = get_or (run_items x.run) i []

-- the strings given: the texts that lie end to end in the pool's data
abbrev pub given_texts : Option (List ℕ) → List (List ℕ)
given_texts None = []
given_texts (Some pool) = split pool

-- those that a reader has: none without 01 on its list
abbrev pub texts_for : Kinds → tiny-parts.Parts → List (List ℕ)
texts_for k x = cond (has_pool k) (given_texts x.pool) []

-- what an index refers to: text n of them; undecodable where there is none
abbrev pub given_string : Kinds → tiny-parts.Parts → ℕ → Value
given_string k x n = cond (ltb n (length (texts_for k x))) (rows.text (get_or (texts_for k x) n [])) rows.undecodable

-- the rows of its tag over an item given, whose data begin at offset 2; none where the tag is not on the list
abbrev pub rows_given : Kinds → tiny-parts.Parts → List ℕ → List Field
rows_given k x y = cond (listed k (Tag (byte y 0))) (shown_rows (given_string k x) y 2 (byte y 1) (table (shape_of (byte y 0)))) []

-- an item y of the run is shown: its tag, its length byte, and its fields
pub record ShowsItem (k : Kinds) (x : tiny-parts.Parts) (y : List ℕ) (a : Said ItemValues) : Type 0 where
  pub value : ItemValues
  pub said : a ≡ says value
  pub kind : value.kind ≡ Tag (byte y 0)
  pub size : value.length ≡ byte y 1
  pub fields : labelled value.fields ≡ rows_given k x y

-- the pool is shown: tag 01, as many bytes as given, its string count, and where its data lie, past tag and length byte
pub record ShowsPool (k : Kinds) (pool : List ℕ) (a : Said ItemValues) : Type 0 where
  pub value : ItemValues
  pub said : a ≡ says value
  pub kind : value.kind ≡ Tag 0x01
  pub size : value.length ≡ length pool
  pub fields : value.fields ≡ cond (has_pool k) (tiny-fields (tiny.pool (length (split pool)) (value.place + 2) (length pool))) not_known

-- item i is the only one of the run with tag 10
pub record OnlySerial (x : tiny-parts.Parts) (i : ℕ) : Type 0 where
  pub below : i < given_count x
  pub serial : byte (given_item x i) 0 ≡ 0x10
  pub alone : (j : ℕ) → j < given_count x → byte (given_item x j) 0 ≡ 0x10 → j ≡ i

-- the text whose number its data byte is
abbrev pub given_name : tiny-parts.Parts → ℕ → List ℕ
given_name x i = get_or (given_texts x.pool) (byte (given_item x i) 2) []

-- what a reader with the list k answers about an image of these parts
pub record TinyShows (x : tiny-parts.Parts) (k : Kinds) (a : Answers Tiny) : Type 0 where
  -- the items of the run by their numbers, then the pool, and no more
  pub item : (i : ℕ) → i < given_count x → ShowsItem k x (given_item x i) (a.item i)
  pub pool : (pool : List ℕ) → x.pool ≡ Some pool → ShowsPool k pool (a.item (given_count x))
  pub end : (i : ℕ) → given_count x + length (pool_items x.pool) ≤ i → a.item i ≡ refused 42 0
  -- string n is text n of those given, and 42 comes past them
  pub string : has_pool k ≡ true → (n : ℕ) → n < length (given_texts x.pool) → a.further.string n ≡ says (tiny.text (get_or (given_texts x.pool) n []))
  pub no_string : has_pool k ≡ true → (n : ℕ) → length (given_texts x.pool) ≤ n → a.further.string n ≡ refused 42 0
  -- the name is the text that the only serial refers to, at the front of the lent buffer, and the rest of it is as it was
  pub name : has_pool k ≡ true → has_serial k ≡ true → (i : ℕ) → OnlySerial x i → (b : List ℕ) → length (given_name x i) ≤ length b
      → a.further.name b ≡ (says (length (given_name x i)), given_name x i ++ drop (length (given_name x i)) b)

-- ---- board images
-- a structure that was written, VerMajor 1 and VerMinor 0, with its fields under their labels
abbrev pub structure_given : ℕ → ℕ → ℕ → Fields → ItemValues
structure_given signature place size fields =
    record {
      kind = Signature signature;
      place = place;
      length = size - head_size;
      fields = board-fields (counted "VerMajor" 1 ∷ counted "VerMinor" 0 ∷ counted "Length" size ∷ field_values fields);
    }

-- what a reader answers about an image of these parts, whatever its list
pub record BoardShows (x : board-parts.Parts) (a : Answers Board) : Type 0 where
  pub header : a.item 0 ≡ says (structure_given eeprom 0 (header_length x.header) (Fields.Eeprom (header_shown x)))
  pub map : a.item 1 ≡ says (structure_given eepr_map (map_place x) (map_length x) (Fields.EeprMap (map_shown x)))
  pub board : a.item 2 ≡ says (structure_given brd_info (board_place x) board_length (Fields.BrdInfo x.board))
  -- record i is the one given, and 42 comes past them
  pub map_record : (i : ℕ) → i < record_count x → a.further.map_record i ≡ says (map_record_values (record_shown x i))
  pub no_map_record : (i : ℕ) → record_count x ≤ i → a.further.map_record i ≡ refused 42 0
