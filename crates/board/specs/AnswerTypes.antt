-- What an item shows beside its signature, place and length, and what is answered for an item and for a record. Assumes nothing.
use Rattle.std.specs.Prelude.{Option, Result}
use Rattle.board.specs.declared.GpioRecord.{GpioRecord}
use Rattle.board.specs.declared.Known.{Known}
use Rattle.board.specs.declared.MapRecord.{MapRecord}
use Rattle.board.specs.declared.ShownItem.{ShownItem}
use Rattle.verdict.specs.declared.Refusal.{Refusal}

-- the fields of a known structure; nothing of one that is not known
abbrev pub Item : Type 0
Item = Option Known

-- the item of a number
abbrev pub ItemAnswer : Type 0
ItemAnswer = Result ShownItem Refusal

-- the record of a number in the map
abbrev pub MapRecordAnswer : Type 0
MapRecordAnswer = Result MapRecord Refusal

-- the record of a number in an item's GPIO data
abbrev pub GpioRecordAnswer : Type 0
GpioRecordAnswer = Result GpioRecord Refusal
