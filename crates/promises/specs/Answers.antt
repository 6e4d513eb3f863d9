-- All that a reader answers about one image, for every number and every lent buffer, in the paper's values. Each call is the definition that its function is
-- equated with. Assumes nothing.
use Rattle.std.specs.Prelude.{ℕ, List}
use Rattle.board.specs.Answers.{map_record_numbered, gpio_record_numbered}
use Rattle.board.specs.Values.{map_record_said, gpio_record_said}
use Rattle.kinds.specs.declared.Kinds.{Kinds}
use Rattle.octets.specs.Rows.{Field}
use Rattle.reader.specs.Answers.{item_numbered, list_of}
use Rattle.reader.specs.Formats.{judged}
use Rattle.reader.specs.Values as reader
use Rattle.reader.specs.Values.{FieldValues, ItemValues, StepValues, item_said, step_said, list_said}
use Rattle.reader.specs.Walk.{step_numbered}
use Rattle.reader.specs.declared.Entry.{Entry}
use Rattle.reader.specs.declared.Format.{Format}
use Rattle.reader.specs.declared.Format.TheVariants.{Tiny, Board}
use Rattle.tiny.specs.Answers.{string_numbered, name_of}
use Rattle.tiny.specs.Texts.{EachIndexed}
use Rattle.tiny.specs.Values.{ReferenceValue, string_said, name_said}
use Rattle.verdict.specs.Said.{Said, judged_said}

-- the calls that tiny images have beside the four of every format
pub record TinyAnswers : Type 0 where
  -- string number n
  pub string : ℕ → Said ReferenceValue
  -- a lent name buffer: what is answered, and what it then holds
  pub name : List ℕ → Said ℕ × List ℕ

-- and board images: record n of the map, record n of the GPIO data that are item i. (The paper compares the other six calls; these show more of known items.)
pub record BoardAnswers : Type 0 where
  pub map_record : ℕ → Said (List Field)
  pub gpio_record : ℕ → ℕ → Said (List Field)

abbrev pub FurtherAnswers : Format → Type 0
FurtherAnswers Tiny = TinyAnswers
FurtherAnswers Board = BoardAnswers

pub record Answers (f : Format) : Type 0 where
  -- accepted with the count of items, or refused
  pub judge : Said ℕ
  -- item number i
  pub item : ℕ → Said ItemValues
  -- a lent list: what is answered, and what it then holds
  pub list : List Entry → Said ℕ × List Entry
  -- step number i from a fresh walk
  pub walk : ℕ → Said StepValues
  -- the calls of this format alone
  pub further : FurtherAnswers f

abbrev pub further_answers : (f : Format) → Kinds → List ℕ → FurtherAnswers f
further_answers Tiny k s =
    record { string = λ n. string_said s (string_numbered k s n); name = λ b. (name_said (name_of k s b).0, (name_of k s b).1) }
further_answers Board k s =
    record { map_record = λ n. map_record_said (map_record_numbered k s n); gpio_record = λ i n. gpio_record_said (gpio_record_numbered k s i n) }

unfoldable pub answers : (f : Format) → Kinds → List ℕ → Answers f
answers f k s =
    record {
      judge = judged_said (judged f k s);
      item = λ i. item_said s (item_numbered f k s i);
      list = λ l. (list_said (list_of f k s l).0, (list_of f k s l).1);
      walk = λ i. step_said s (step_numbered f k s i);
      further = further_answers f k s;
    }

-- what holds of each string that an item shows, with the number of its index byte: 0 for the serial's, 1 for the part's
abbrev pub EachString : (ℕ → ReferenceValue → Type 0) → FieldValues → Type 0
EachString P (reader.tiny-fields x) = EachIndexed P x
EachString P (reader.board-fields x) = Unit {0}
EachString P reader.not_known = Unit {0}
