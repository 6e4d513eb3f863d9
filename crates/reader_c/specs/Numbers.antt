-- What C passes and gets as numbers beside those of host: the format, and what a step shows. Assumes nothing.
use Rattle.std.specs.Prelude.{ℕ, cond, eqb}
use Rattle.host.specs.Numbers.{number}
use Rattle.reader.specs.declared.Format.{Format}
use Rattle.reader.specs.declared.Format.TheVariants.{Tiny, Board}
use Rattle.reader.specs.declared.Item.{Item}
use Rattle.reader.specs.declared.StepAnswer.{StepAnswer}
use Rattle.verdict.specs.Said.{says, refused}

-- 0 for tiny images, any other number for board images
abbrev pub format_of : ℕ → Format
format_of n = cond (eqb n 0) Tiny Board

-- what a step shows: the item's place; bit 40 where none is left, bit 41 where no step was made; or the refusal
abbrev pub item_place : Item → ℕ
item_place (Item.Tiny x) = number (says x.place)
item_place (Item.Board x) = number (says x.place)

abbrev pub step_number : StepAnswer → ℕ
step_number StepAnswer.Nothing = 0x20000000000
step_number (StepAnswer.Shown x) = item_place x
step_number StepAnswer.NoneLeft = 0x10000000000
step_number (StepAnswer.Refused r) = number (refused r.number r.place)
