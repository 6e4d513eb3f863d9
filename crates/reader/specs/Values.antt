-- The paper's numbers and values of each answer: a refusal's number and place; kind, place, data length and fields of an item, texts as bytes; the count of a
-- list that was filled. What the demands say of two readers or two images is said of these values. Assumes nothing.
use Rattle.std.specs.Prelude.{ℕ, List}
use Rattle.board.specs.Values as board
use Rattle.kinds.specs.declared.Kind.{Kind}
use Rattle.kinds.specs.declared.Kind.TheVariants.{Tag, Signature}
use Rattle.octets.specs.Rows.{Field}
use Rattle.reader.specs.declared.Item.{Item}
use Rattle.reader.specs.AnswerTypes.{ItemAnswer, ListAnswer}
use Rattle.reader.specs.declared.StepAnswer.{StepAnswer}
use Rattle.tiny.specs.Values as tiny
use Rattle.verdict.specs.Said.{Said, says, refused, said_by}

-- the fields of a known item of a tiny image, or of a known structure; "An item not known shows only its kind, place and length."
pub data FieldValues : Type 0 where
  tiny-fields : tiny.FieldValues → FieldValues
  board-fields : List Field → FieldValues
  not_known : FieldValues

-- kind, place and data length of every item, and its fields
pub record ItemValues : Type 0 where
  pub kind : Kind
  pub place : ℕ
  pub length : ℕ
  pub fields : FieldValues

abbrev pub tiny_fields : tiny.FieldValues → FieldValues
tiny_fields (tiny.pool n p l) = tiny-fields (tiny.pool n p l)
tiny_fields (tiny.serial r) = tiny-fields (tiny.serial r)
tiny_fields (tiny.flags b) = tiny-fields (tiny.flags b)
tiny_fields (tiny.address bytes) = tiny-fields (tiny.address bytes)
tiny_fields (tiny.identity x) = tiny-fields (tiny.identity x)
tiny_fields (tiny.batched x b) = tiny-fields (tiny.batched x b)
tiny_fields tiny.not_known = not_known

abbrev pub board_fields : board.FieldValues → FieldValues
board_fields (board.fields l) = board-fields l
board_fields board.not_known = not_known

abbrev pub item_values : List ℕ → Item → ItemValues
item_values s (Item.Tiny x) = record { kind = Tag x.tag; place = x.place; length = x.length; fields = tiny_fields (tiny.field_values s x.item) }
item_values s (Item.Board x) = record { kind = Signature x.signature; place = x.place; length = x.length; fields = board_fields (board.item_fields x.item) }

-- item by number
abbrev pub item_said : List ℕ → ItemAnswer → Said ItemValues
item_said s a = said_by (item_values s) a

-- a step: an item, or that none is left. (A walk that has not stepped shows nothing.)
pub data StepValues : Type 0 where
  item : ItemValues → StepValues
  none_left : StepValues
  nothing : StepValues

abbrev pub step_said : List ℕ → StepAnswer → Said StepValues
step_said s StepAnswer.Nothing = says nothing
step_said s (StepAnswer.Shown x) = says (item (item_values s x))
step_said s StepAnswer.NoneLeft = says none_left
step_said s (StepAnswer.Refused r) = refused r.number r.place

-- the list: how many entries were filled
abbrev pub list_said : ListAnswer → Said ℕ
list_said a = said_by (λ n. n) a
