-- The item by number over both formats is each format's own. Assumes nothing.
use Rattle.std.specs.Prelude.{ℕ, List, ◌≡◌, Some, None, Ok, Err}
use Rattle.std.proofs.Math.Path.{refl}
use Rattle.board.specs.Answers as board
use Rattle.board.specs.AnswerTypes as board-answers
use Rattle.board_layout.specs.Layout.{structures}
use Rattle.board_rules.specs.Judged as board-rules
use Rattle.chain.specs.Nth.{nth}
use Rattle.chain.specs.Found.{Found}
use Rattle.kinds.specs.declared.Kinds.{Kinds}
use Rattle.reader.specs.Answers.{numbered, item_if, item_numbered}
use Rattle.reader.specs.declared.Format.TheVariants.{Tiny, Board}
use Rattle.reader.specs.declared.Item.{Item}
use Rattle.reader.specs.AnswerTypes.{ItemAnswer}
use Rattle.tiny.specs.Answers as tiny
use Rattle.tiny.specs.AnswerTypes as tiny-answers
use Rattle.tiny_layout.specs.Layout.{items}
use Rattle.tiny_rules.specs.Judged as tiny-rules
use Rattle.verdict.specs.Answers.{Judged}

-- what a format answers, as an answer of the reader over both
abbrev pub from_tiny : tiny-answers.ItemAnswer → ItemAnswer
from_tiny (Ok x) = Ok (Item.Tiny x)
from_tiny (Err r) = Err r

abbrev pub from_board : board-answers.ItemAnswer → ItemAnswer
from_board (Ok x) = Ok (Item.Board x)
from_board (Err r) = Err r

module _ (k : Kinds) (s : List ℕ) (n : ℕ) where
  pub tiny-numbered : from_tiny (tiny.item_numbered k s n) ≡ item_numbered Tiny k s n
  unfolding item_numbered tiny.item_numbered
  tiny-numbered = go (tiny-rules.judged k s)
    where
      found : (f : Found) → from_tiny (tiny.numbered k s f) ≡ numbered Tiny k s f
      found (Some p) = refl
      found None = refl

      go : (j : Judged) → from_tiny (tiny.item_if k s n j) ≡ item_if Tiny k s n j
      go (Ok c) = found (nth (items s) n)
      go (Err r) = refl

  pub board-numbered : from_board (board.item_numbered k s n) ≡ item_numbered Board k s n
  unfolding item_numbered board.item_numbered
  board-numbered = go (board-rules.judged k s)
    where
      found : (f : Found) → from_board (board.numbered k s f) ≡ numbered Board k s f
      found (Some p) = refl
      found None = refl

      go : (j : Judged) → from_board (board.item_if k s n j) ≡ item_if Board k s n j
      go (Ok c) = found (nth (structures s) n)
      go (Err r) = refl
