-- What a reader answers for an item by number, and for a record of the map or of GPIO data by number: the image's own refusal, then 42. Assumes nothing.
use Rattle.std.specs.Prelude.{ℕ, Bool, true, false, cond, ◌&&◌, List, Some, None, Ok, Err}
use Rattle.board.specs.Items.{item_at}
use Rattle.board.specs.Records.{map_record_at, gpio_record_at}
use Rattle.board.specs.AnswerTypes.{GpioRecordAnswer, ItemAnswer, MapRecordAnswer}
use Rattle.board_layout.specs.Layout.{shape_at, structures, map_at, records}
use Rattle.board_layout.specs.Shapes.{knows}
use Rattle.board_layout.specs.declared.Records.TheVariants.{Map, Gpio}
use Rattle.board_layout.specs.declared.Shape.{Shape}
use Rattle.board_rules.specs.Judged.{judged}
use Rattle.chain.specs.Nth.{nth}
use Rattle.chain.specs.Found.{Found}
use Rattle.kinds.specs.declared.Kinds.{Kinds}
use Rattle.verdict.specs.Answers.{Judged}
use Rattle.verdict.specs.declared.Refusal.{Refusal}

-- 42 has the place 0
abbrev pub beyond : Refusal
beyond = record { number = 42; place = 0 }

-- ---- item by number
abbrev pub numbered : Kinds → List ℕ → Found → ItemAnswer
numbered k s (Some p) = Ok (item_at k s p)
numbered k s None = Err beyond

abbrev pub item_if : Kinds → List ℕ → ℕ → Judged → ItemAnswer
item_if k s n (Ok count) = numbered k s (nth (structures s) n)
item_if k s n (Err r) = Err r

unfoldable pub item_numbered : Kinds → List ℕ → ℕ → ItemAnswer
item_numbered k s n = item_if k s n (judged k s)

-- ---- record n of the map
abbrev pub map_record : List ℕ → Found → MapRecordAnswer
map_record s (Some r) = Ok (map_record_at s r)
map_record s None = Err beyond

abbrev pub map_record_if : List ℕ → ℕ → Judged → MapRecordAnswer
map_record_if s n (Ok count) = map_record s (nth (records Map s (map_at s)) n)
map_record_if s n (Err r) = Err r

unfoldable pub map_record_numbered : Kinds → List ℕ → ℕ → MapRecordAnswer
map_record_numbered k s n = map_record_if s n (judged k s)

-- ---- record n of item i, where that is a known `$GpioDat`; any other item has none
abbrev pub is_gpio : Shape → Bool
is_gpio Shape.Eeprom = false
is_gpio Shape.EeprMap = false
is_gpio Shape.BrdInfo = false
is_gpio Shape.PromSig = false
is_gpio Shape.AcpiTbl = false
is_gpio Shape.FpgaNfo = false
is_gpio Shape.GpioDat = true
is_gpio Shape.HdCodec = false
is_gpio Shape.Logo = false
is_gpio Shape.MemCnfg = false
is_gpio Shape.MacInfo = false
is_gpio Shape.UCode = false
is_gpio Shape.Video = false
is_gpio Shape.Other = false

abbrev pub gpio_records_at : Kinds → List ℕ → ℕ → Found → Found
gpio_records_at k s n (Some p) = cond (is_gpio (shape_at s p) && knows k (shape_at s p)) (nth (records Gpio s p) n) None
gpio_records_at k s n None = None

abbrev pub gpio_record : List ℕ → Found → GpioRecordAnswer
gpio_record s (Some r) = Ok (gpio_record_at s r)
gpio_record s None = Err beyond

abbrev pub gpio_record_if : Kinds → List ℕ → ℕ → ℕ → Judged → GpioRecordAnswer
gpio_record_if k s i n (Ok count) = gpio_record s (gpio_records_at k s n (nth (structures s) i))
gpio_record_if k s i n (Err r) = Err r

unfoldable pub gpio_record_numbered : Kinds → List ℕ → ℕ → ℕ → GpioRecordAnswer
gpio_record_numbered k s i n = gpio_record_if k s i n (judged k s)
