-- The paper's numbers and values of each answer: a refusal's number and place; the fields of an item; a text as its bytes, the end mark cleared.
-- What the demands say of two readers or two images is said of these values. Assumes nothing.
use Rattle.std.specs.Prelude.{ℕ, List, Some, None}
use Rattle.tiny_layout.specs.Strings.{text_of}
use Rattle.tiny_layout.specs.Reference.{Reference}
use Rattle.tiny.specs.Major.{major_text}
use Rattle.tiny.specs.declared.Identity.{Identity}
use Rattle.tiny.specs.declared.Item.{Item}
use Rattle.tiny.specs.AnswerTypes.{ItemAnswer, NameAnswer, StringAnswer}
use Rattle.tiny.specs.declared.ShownItem.{ShownItem}
use Rattle.verdict.specs.Said.{Said, said_by}

-- a reference "is shown inside its item as text or as undecodable"
pub data ReferenceValue : Type 0 where
  text : List ℕ → ReferenceValue
  undecodable : ReferenceValue

-- serial, part, major as a byte and as two characters, minor, two characters
pub record IdentityValues : Type 0 where
  pub serial : ReferenceValue
  pub part : ReferenceValue
  pub major : ℕ
  pub letters : List ℕ
  pub minor : ℕ
  pub characters : List ℕ

-- the fields by the rows of the table: a pool's string count, and place and length of its data; a batch after its identity
pub data FieldValues : Type 0 where
  pool : ℕ → ℕ → ℕ → FieldValues
  serial : ReferenceValue → FieldValues
  flags : ℕ → FieldValues
  address : List ℕ → FieldValues
  identity : IdentityValues → FieldValues
  batched : IdentityValues → ℕ → FieldValues
  not_known : FieldValues

-- kind, place and data length of every item
pub record ItemValues : Type 0 where
  pub kind : ℕ
  pub place : ℕ
  pub length : ℕ
  pub fields : FieldValues

abbrev pub reference_value : List ℕ → Reference → ReferenceValue
reference_value s (Some span) = text (text_of s span)
reference_value s None = undecodable

abbrev pub identity_values : List ℕ → Identity → IdentityValues
identity_values s x =
    record {
      serial = reference_value s x.serial;
      part = reference_value s x.part;
      major = x.major;
      letters = major_text x.major;
      minor = x.minor;
      characters = x.characters;
    }

abbrev pub field_values : List ℕ → Item → FieldValues
field_values s (Item.Pool x) = pool x.count x.bytes.place x.bytes.length
field_values s (Item.Serial r) = serial (reference_value s r)
field_values s (Item.Flags b) = flags b
field_values s (Item.Address x) = address x
field_values s (Item.Identity x) = identity (identity_values s x)
field_values s (Item.Batched x) = batched (identity_values s x.identity) x.batch
field_values s Item.NotKnown = not_known

abbrev pub item_values : List ℕ → ShownItem → ItemValues
item_values s x = record { kind = x.tag; place = x.place; length = x.length; fields = field_values s x.item }

-- item by number
abbrev pub item_said : List ℕ → ItemAnswer → Said ItemValues
item_said s a = said_by (item_values s) a

-- string by number
abbrev pub string_said : List ℕ → StringAnswer → Said ReferenceValue
string_said s a = said_by (reference_value s) a

-- name: its length
abbrev pub name_said : NameAnswer → Said ℕ
name_said a = said_by (λ n. n) a
