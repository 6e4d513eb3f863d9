-- `same_board` meets its contract: derived equality compares the fields that count (`compared`). Assumes nothing.
use Rattle.choice.proofs.laws.Boards.{compared}
use Rattle.choice.proofs.same_board.Goals as goal

pub returns : goal.returns
returns c = compared _ _ _ _ _ c.board_of.ensures c.board_of-2.ensures c.eq.ensures
