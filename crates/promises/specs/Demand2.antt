-- Demand 2: "An image is accepted exactly when the rules of the layout papers and the build paper hold. Each field shown is the field those rules define. What
-- the writers write is accepted and reads back as given; an accepted image that a writer can make is rebuilt to the last byte." `Demand2` is the claim; it is
-- proved in proofs/Demand2. Two premises are met by the types of every call, and contracts say so: an image is of bytes (`Octets`: the contract of
-- `reader::judge`), and what a board is written of fits its fields (`Fits`: that of `board_writer::write`). Assumes nothing.
use Rattle.std.specs.Prelude.{ℕ, ◌+◌, ◌*◌, ◌<◌, ◌≤◌, true, false, List, [], ◌∷◌, ◌++◌, ◌⊎◌, ◌↔◌, ◌≡◌, length, get_or, take, drop, Some, None}
use Rattle.board.specs.Shown.{record_shown}
use Rattle.board_layout.specs.Layout.{shape_at, struct_len, structures, records}
use Rattle.board_layout.specs.Shapes.{knows, HasRecords}
use Rattle.board_layout.specs.declared.Records.TheVariants.{Map, Gpio}
use Rattle.board_writer.specs.Parts as board-parts
use Rattle.board_writer.specs.PartsOf as board-read
use Rattle.board_writer.specs.ReadsBack as board-back
use Rattle.board_writer.specs.Written as board-writer
use Rattle.chain.specs.Keep.{only}
use Rattle.chain.specs.Nth.{nth}
use Rattle.kinds.specs.Kinds.{full}
use Rattle.kinds.specs.declared.Kind.TheVariants.{Tag}
use Rattle.kinds.specs.declared.Kinds.{Kinds}
use Rattle.octets.specs.Bytes.{Octets, byte, run}
use Rattle.octets.specs.Rows.{Field, bytes}
use Rattle.promises.specs.Answers.{TinyAnswers, BoardAnswers, answers, EachString}
use Rattle.promises.specs.Demand1.{table}
use Rattle.promises.specs.Hidden.{has_pool}
use Rattle.promises.specs.Rows.{labelled, known_rows}
use Rattle.promises.specs.ReadBack.{TinyShows, BoardShows}
use Rattle.reader.specs.Formats.{places, kind_at, as_kind, length_at}
use Rattle.reader.specs.Items.{pool_of, item_at}
use Rattle.reader.specs.Values.{FieldValues, tiny-fields, board-fields, not_known, ItemValues, item_values}
use Rattle.reader.specs.declared.Format.{Format}
use Rattle.reader.specs.declared.Format.TheVariants.{Tiny, Board}
use Rattle.tiny.specs.Answers.{serials}
use Rattle.tiny.specs.Major.{MajorShown}
use Rattle.tiny.specs.Values as tiny
use Rattle.tiny.specs.Values.{text}
use Rattle.tiny_layout.specs.Layout.{total, data_at}
use Rattle.tiny_layout.specs.Pool.{pool}
use Rattle.tiny_layout.specs.Strings.{texts}
use Rattle.tiny_writer.specs.Image as tiny-parts
use Rattle.tiny_writer.specs.PartsOf as tiny-read
use Rattle.tiny_writer.specs.ReadsBack as tiny-back
use Rattle.tiny_writer.specs.Written as tiny-writer
use Rattle.verdict.specs.Said.{says, refused, write_said}
use Rattle.verdict.specs.Table.{Unbroken}

-- the text whose number is data byte j of the item at p; and data byte 0 of a serial
abbrev pub indexed_text : Kinds → List ℕ → ℕ → ℕ → List ℕ
indexed_text k s p j = get_or (texts s (pool k s)) (byte s (data_at s p + j)) []

abbrev pub serial_text : Kinds → List ℕ → ℕ → List ℕ
serial_text k s p = get_or (texts s (pool k s)) (byte s (data_at s p)) []

-- what holds of an identity that an item shows
abbrev pub EachIdentity : (tiny.IdentityValues → Type 0) → FieldValues → Type 0
EachIdentity P (tiny-fields (tiny.identity x)) = P x
EachIdentity P (tiny-fields (tiny.batched x b)) = P x
EachIdentity P (tiny-fields (tiny.pool n p l)) = Unit {0}
EachIdentity P (tiny-fields (tiny.serial r)) = Unit {0}
EachIdentity P (tiny-fields (tiny.flags b)) = Unit {0}
EachIdentity P (tiny-fields (tiny.address l)) = Unit {0}
EachIdentity P (tiny-fields tiny.not_known) = Unit {0}
EachIdentity P (board-fields l) = Unit {0}
EachIdentity P not_known = Unit {0}

-- r is the place of record n of the map, the second structure; and of record n of the known GPIO data that are item i
abbrev pub MapRecordAt : List ℕ → ℕ → ℕ → Type 0
MapRecordAt s n r = (m : ℕ) × ((nth (structures s) 1 ≡ Some m) × (nth (records Map s m) n ≡ Some r))

abbrev pub GpioRecordAt : Kinds → List ℕ → ℕ → ℕ → ℕ → Type 0
GpioRecordAt k s i n r =
    (p : ℕ) × ((nth (structures s) i ≡ Some p) × (knows k (shape_at s p) ≡ true) × HasRecords Gpio (shape_at s p) × (nth (records Gpio s p) n ≡ Some r))

-- record i of the map shows these bytes under "MapLabel"; and the label of record i of those given to the board writer, "seventeen bytes each"
abbrev pub ShowsLabel : BoardAnswers → ℕ → List ℕ → Type 0
ShowsLabel a i l = (more : List Field) × (a.map_record i ≡ says (("MapLabel", bytes l) ∷ more))

abbrev pub given_label : board-parts.Parts → ℕ → List ℕ
given_label x i = run x.records (board-parts.given_size * i) 16

-- ---- a tiny image that is accepted, to a reader with the pool
pub record Strings (k : Kinds) (s : List ℕ) (a : TinyAnswers) : Type 0 where
  -- string i is text i of the split of the pool, and 42 comes where there is none
  pub string : (i : ℕ) → i < length (texts s (pool k s)) → a.string i ≡ says (text (get_or (texts s (pool k s)) i []))
  pub no_string : (i : ℕ) → length (texts s (pool k s)) ≤ i → a.string i ≡ refused 42 0
  -- the name is the text that the only known serial refers to, at the front of the lent buffer, and the rest of it is as it was; 43 where the buffer is too short
  pub name : (p : ℕ) → only (serials k s) ≡ Some p → (b : List ℕ) → length (serial_text k s p) ≤ length b
      → a.name b ≡ (says (length (serial_text k s p)), serial_text k s p ++ drop (length (serial_text k s p)) b)
  pub too_short : (p : ℕ) → only (serials k s) ≡ Some p → (b : List ℕ) → length b < length (serial_text k s p) → a.name b ≡ (refused 43 0, b)

-- ---- records of a board image that is accepted, by number
pub record Records (k : Kinds) (s : List ℕ) (a : BoardAnswers) : Type 0 where
  pub map : (n r : ℕ) → MapRecordAt s n r → a.map_record n ≡ says (record_shown Map s r)
  pub no_map : (n : ℕ) → ((r : ℕ) → MapRecordAt s n r → ⊥) → a.map_record n ≡ refused 42 0
  pub gpio : (i n r : ℕ) → GpioRecordAt k s i n r → a.gpio_record i n ≡ says (record_shown Gpio s r)
  pub no_gpio : (i n : ℕ) → ((r : ℕ) → GpioRecordAt k s i n r → ⊥) → a.gpio_record i n ≡ refused 42 0

pub record Demand2 : Type 0 where
  -- "An image is accepted exactly when the rules .. hold": no rule of the table is broken anywhere. The count is that of the items on the walk
  pub accepted : (f : Format) (k : Kinds) (s : List ℕ) (n : ℕ) → ((answers f k s).judge ≡ says n) ↔ (Unbroken (table f k s) × (length (places f s) ≡ n))
  -- "Each field shown is the field those rules define": item i shows what the tables define at its place
  pub item : (f : Format) (k : Kinds) (s : List ℕ) (n : ℕ) → (answers f k s).judge ≡ says n → (i p : ℕ) → nth (places f s) i ≡ Some p
      → (answers f k s).item i ≡ says (item_values s (item_at f k s (pool_of f k s) p))
  -- "kind (the tag, or the eight signature bytes), place (of its first byte), data length", known or not
  pub head : (f : Format) (k : Kinds) (s : List ℕ) (n : ℕ) → (answers f k s).judge ≡ says n → (i p : ℕ) → nth (places f s) i ≡ Some p → (x : ItemValues)
      → (answers f k s).item i ≡ says x → (x.kind ≡ as_kind f (kind_at f s p)) × (x.place ≡ p) × (x.length ≡ length_at f s p)
  -- under each label the number, the bytes or the string at its row, and of an item not known nothing
  pub fields : (f : Format) (k : Kinds) (s : List ℕ) (n : ℕ) → (answers f k s).judge ≡ says n → (i : ℕ) (x : ItemValues) → (answers f k s).item i ≡ says x
      → labelled x.fields ≡ known_rows f k s x.place
  -- a string inside an item is the text of the pool's split whose number its index byte holds
  pub reference : (k : Kinds) (s : List ℕ) (n : ℕ) → (answers Tiny k s).judge ≡ says n → has_pool k ≡ true → (i : ℕ) (x : ItemValues) → (answers Tiny k s).item i ≡ says x
      → EachString (λ j r. r ≡ text (indexed_text k s x.place j)) x.fields
  -- "Major 00h to 63h is '00' to '99'; 80h to 99h is '0A' to '0Z'."
  pub major : (k : Kinds) (s : List ℕ) (n : ℕ) → (answers Tiny k s).judge ≡ says n → (i : ℕ) (x : ItemValues) → (answers Tiny k s).item i ≡ says x
      → EachIdentity (λ v. MajorShown v.major v.letters) x.fields
  -- a pool shows the number of its strings ("a made-up string count" is none)
  pub count : (k : Kinds) (s : List ℕ) (n : ℕ) → (answers Tiny k s).judge ≡ says n → has_pool k ≡ true → (i : ℕ) (x : ItemValues) → (answers Tiny k s).item i ≡ says x
      → x.kind ≡ Tag 0x01 → x.fields ≡ tiny-fields (tiny.pool (length (texts s (pool k s))) (data_at s x.place) x.length)
  -- strings by number, and the name
  pub strings : (k : Kinds) (s : List ℕ) (n : ℕ) → (answers Tiny k s).judge ≡ says n → has_pool k ≡ true → Strings k s (answers Tiny k s).further
  -- "44 | no name: not exactly one known tag 10 item, or undecodable"
  pub no_name : (k : Kinds) (s : List ℕ) (n : ℕ) → (answers Tiny k s).judge ≡ says n → (b : List ℕ)
      → (((answers Tiny k s).further.name b).0 ≡ refused 44 0) ↔ ((only (serials k s) ≡ None) ⊎ (has_pool k ≡ false))
  -- records by number
  pub records : (k : Kinds) (s : List ℕ) (n : ℕ) → (answers Board k s).judge ≡ says n → Records k s (answers Board k s).further
  -- paper 02, R-2: "Two map records whose sixteen label bytes are equal are now refused by every reader": records that show one MapLabel are one record
  pub labels : (k : Kinds) (s : List ℕ) (n : ℕ) → (answers Board k s).judge ≡ says n → (i j : ℕ) (l : List ℕ)
      → ShowsLabel (answers Board k s).further i l → ShowsLabel (answers Board k s).further j l → i ≡ j
  -- ".. and by the board writer": where a board is written, records that were given one label are one record
  pub given_labels : (x : board-parts.Parts) → board-parts.Fits x → (b : List ℕ) (n : ℕ) → write_said (board-writer.written x b).0 ≡ says n
      → (i j : ℕ) → i < board-parts.record_count x → j < board-parts.record_count x → given_label x i ≡ given_label x j → i ≡ j
  -- "What the writers write is accepted and reads back as given". (A board reader refuses over 65,536 bytes, so it is asked of as many at most.)
  pub tiny_reads_back : (x : tiny-parts.Parts) (b : List ℕ) (n : ℕ) → write_said (tiny-writer.written x b).0 ≡ says n → tiny-back.ReadsBack x (tiny-writer.written x b).1
  pub board_reads_back : (x : board-parts.Parts) → board-parts.Fits x → (b : List ℕ) (n : ℕ) → write_said (board-writer.written x b).0 ≡ says n
      → (m : ℕ) → n ≤ m → m ≤ 65536 → board-back.ReadsBack x (take m (board-writer.written x b).1)
  -- "reads back as given", by the reader's own calls: items, strings, name and records asked by number show what was given, whatever the list
  pub tiny_shows : (x : tiny-parts.Parts) (b : List ℕ) (n : ℕ) → write_said (tiny-writer.written x b).0 ≡ says n
      → (k : Kinds) → TinyShows x k (answers Tiny k (tiny-writer.written x b).1)
  pub board_shows : (x : board-parts.Parts) → board-parts.Fits x → (b : List ℕ) (n : ℕ) → write_said (board-writer.written x b).0 ≡ says n
      → (m : ℕ) → n ≤ m → m ≤ 65536 → (k : Kinds) → BoardShows x (answers Board k (take m (board-writer.written x b).1))
  -- "an accepted image that a writer can make is rebuilt to the last byte": "if it is tiny, or a board without `$PromSig` and with minor 0 in its first three
  -- structures".
  pub tiny_rebuilt : (s : List ℕ) (n : ℕ) → (answers Tiny full s).judge ≡ says n → Octets s → (b : List ℕ) → total s ≤ length b
      → (write_said (tiny-writer.written (tiny-read.parts_of s) b).0 ≡ says (total s))
      × ((tiny-writer.written (tiny-read.parts_of s) b).1 ≡ take (total s) s ++ drop (total s) b)
  pub board_rebuilt : (s : List ℕ) (n : ℕ) → (answers Board full s).judge ≡ says n → board-read.Rebuildable s → Octets s → (b : List ℕ) → struct_len s ≤ length b
      → (write_said (board-writer.written (board-read.parts_of s) b).0 ≡ says (struct_len s))
      × ((board-writer.written (board-read.parts_of s) b).1 ≡ take (struct_len s) s ++ drop (struct_len s) b)
