-- `items::item_numbered` meets its contract: what the image's format answers, as an answer over both (`tiny-numbered`, `board-numbered`). Assumes nothing.
use Rattle.std.proofs.Common.{sym, ◌∙◌, ap}
use Rattle.verdict.proofs.laws.Kept.{handed}
use Rattle.reader.proofs.laws.Items.{from_tiny, from_board, tiny-numbered, board-numbered}
use Rattle.reader.proofs.items.item_numbered.Goals as goal

pub returns-in_err-item_numbered-in-Tiny : goal.returns-in_err-item_numbered-in-Tiny
returns-in_err-item_numbered-in-Tiny c = let a = c.args in
    rw c.in-Tiny.is
    (handed c.from_residual.result c.from_residual.ensures.1
    ∙ ap from_tiny (sym c.in_err-item_numbered-in-Tiny.was ∙ c.item_numbered.ensures.answer) ∙ tiny-numbered a.kinds a.image.now a.number)

pub returns-in_err-item_numbered-in-Board : goal.returns-in_err-item_numbered-in-Board
returns-in_err-item_numbered-in-Board c = let a = c.args in
    rw c.in-Board.is
    (handed c.from_residual-in_err-item_numbered-in-Board.result c.from_residual-in_err-item_numbered-in-Board.ensures.1
    ∙ ap from_board (sym c.in_err-item_numbered-in-Board.was ∙ c.item_numbered-in-Board.ensures) ∙ board-numbered a.kinds a.image.now a.number)

pub returns-in_ok-item_numbered-in-Tiny : goal.returns-in_ok-item_numbered-in-Tiny
returns-in_ok-item_numbered-in-Tiny c = let a = c.args in
    rw c.in-Tiny.is
    (ap from_tiny (sym c.in_ok-item_numbered-in-Tiny.was ∙ c.item_numbered.ensures.answer) ∙ tiny-numbered a.kinds a.image.now a.number)

pub returns-in_ok-item_numbered-in-Board : goal.returns-in_ok-item_numbered-in-Board
returns-in_ok-item_numbered-in-Board c = let a = c.args in
    rw c.in-Board.is
    (ap from_board (sym c.in_ok-item_numbered-in-Board.was ∙ c.item_numbered-in-Board.ensures) ∙ board-numbered a.kinds a.image.now a.number)
