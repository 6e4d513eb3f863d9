-- What a reader with a shorter list makes of the answers that a reader with a longer one gives: what its own list lacks is hidden, and all else stays.
-- Assumes nothing.
use Rattle.std.specs.Prelude.{ℕ, Bool, false, cond, ◌&&◌, ◌||◌, List, ◌++◌, map, take, drop}
use Rattle.board_layout.specs.Shapes.{on_every_list}
use Rattle.kinds.specs.Kinds.{listed}
use Rattle.kinds.specs.declared.Kind.{Kind}
use Rattle.kinds.specs.declared.Kind.TheVariants.{Tag, Signature}
use Rattle.kinds.specs.declared.Kinds.{Kinds}
use Rattle.octets.specs.Rows.{Field}
use Rattle.promises.specs.Answers.{FurtherAnswers, Answers}
use Rattle.reader.specs.Formats.{as_kind}
use Rattle.reader.specs.Values as reader
use Rattle.reader.specs.Values.{FieldValues, ItemValues, StepValues}
use Rattle.reader.specs.declared.Entry.{Entry}
use Rattle.reader.specs.declared.Format.{Format}
use Rattle.reader.specs.declared.Format.TheVariants.{Tiny, Board}
use Rattle.tiny.specs.Values as tiny
use Rattle.verdict.specs.Said.{Said, says, refused}

-- whether a list has a kind. "`$Eeprom$` (item 0), `$EeprMap`, `$BrdInfo` and `$PromSig` count as on every list."
abbrev pub has : Kinds → Kind → Bool
has k (Tag tag) = listed k (Tag tag)
has k (Signature g) = on_every_list g || listed k (Signature g)

-- whether it has the pool, and the serial's kind
abbrev pub has_pool : Kinds → Bool
has_pool k = listed k (Tag 0x01)

abbrev pub has_serial : Kinds → Bool
has_serial k = listed k (Tag 0x10)

-- a string: undecodable without the pool
abbrev pub hide_reference : Kinds → tiny.ReferenceValue → tiny.ReferenceValue
hide_reference k r = cond (has_pool k) r tiny.undecodable

abbrev pub hide_identity : Kinds → tiny.IdentityValues → tiny.IdentityValues
hide_identity k x =
    record {
      serial = hide_reference k x.serial;
      part = hide_reference k x.part;
      major = x.major;
      letters = x.letters;
      minor = x.minor;
      characters = x.characters;
    }

-- the fields of a known item: its strings
abbrev pub hide_tiny : Kinds → tiny.FieldValues → tiny.FieldValues
hide_tiny k (tiny.pool n p l) = tiny.pool n p l
hide_tiny k (tiny.serial r) = tiny.serial (hide_reference k r)
hide_tiny k (tiny.flags b) = tiny.flags b
hide_tiny k (tiny.address bytes) = tiny.address bytes
hide_tiny k (tiny.identity x) = tiny.identity (hide_identity k x)
hide_tiny k (tiny.batched x b) = tiny.batched (hide_identity k x) b
hide_tiny k tiny.not_known = tiny.not_known

abbrev pub hide_fields : Kinds → FieldValues → FieldValues
hide_fields k (reader.tiny-fields x) = reader.tiny-fields (hide_tiny k x)
hide_fields k (reader.board-fields x) = reader.board-fields x
hide_fields k reader.not_known = reader.not_known

-- an item: not known, with the same kind, place and length, where the list lacks its kind. (A listed kind of another version the longer does not know either.)
abbrev pub hide_item : Kinds → ItemValues → ItemValues
hide_item k x =
    record { kind = x.kind; place = x.place; length = x.length; fields = cond (has k x.kind) (hide_fields k x.fields) reader.not_known }

-- a step: as the item
abbrev pub hide_step : Kinds → StepValues → StepValues
hide_step k (reader.item x) = reader.item (hide_item k x)
hide_step k reader.none_left = reader.none_left
hide_step k reader.nothing = reader.nothing

-- an entry: "the known marks of items that only the longer knows"
abbrev pub hide_entry : Format → Kinds → Entry → Entry
hide_entry f k x =
    record { kind = x.kind; place = x.place; length = x.length; known = cond (has k (as_kind f x.kind)) x.known false }

-- a list: the entries that were filled; the rest stays, and so does a list that was not filled
abbrev pub hide_list : (Entry → Entry) → Said ℕ → List Entry → Said ℕ × List Entry
hide_list hide (says n) l = (says n, map hide (take n l) ++ drop n l)
hide_list hide (refused n p) l = (refused n p, l)

-- what is said; refusals stay
abbrev pub hide_said : {A : Type 0} → (A → A) → Said A → Said A
hide_said hide (says x) = says (hide x)
hide_said hide (refused n p) = refused n p

-- a record of item i, by what the longer says of that item: 42 where the list lacks its kind
abbrev pub hide_record : Kinds → Said ItemValues → Said (List Field) → Said (List Field)
hide_record k (says x) r = cond (has k x.kind) r (refused 42 0)
hide_record k (refused n p) r = r

-- string by number: undecodable for every number without the pool, also where the longer says 42
-- name: 44, and the buffer as it was lent, without the serial's kind or the pool
abbrev pub hide_further : (f : Format) → Kinds → (ℕ → Said ItemValues) → FurtherAnswers f → FurtherAnswers f
hide_further Tiny k item x =
    record {
      string = λ n. cond (has_pool k) (x.string n) (says tiny.undecodable);
      name = λ b. cond (has_serial k && has_pool k) (x.name b) (refused 44 0, b);
    }
hide_further Board k item x = record { map_record = x.map_record; gpio_record = λ i n. hide_record k (item i) (x.gpio_record i n) }

unfoldable pub hidden : (f : Format) → Kinds → Answers f → Answers f
hidden f k a =
    record {
      judge = a.judge;
      item = λ i. hide_said (hide_item k) (a.item i);
      list = λ l. hide_list (hide_entry f k) (a.list l).0 (a.list l).1;
      walk = λ i. hide_said (hide_step k) (a.walk i);
      further = hide_further f k a.item a.further;
    }
