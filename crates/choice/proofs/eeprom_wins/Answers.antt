-- `eeprom_wins` meets its contract: the same board, and the greater Version. Assumes nothing.
use Rattle.std.proofs.Common.{sym, ◌∙◌}
use Rattle.choice.specs.Choice.{eeprom_wins}
use Rattle.choice.proofs.eeprom_wins.Goals as goal

pub returns-then-same_board : goal.returns-then-same_board
unfolding eeprom_wins
returns-then-same_board c = rw (sym c.same_board.ensures ∙ c.if-same_board.true, sym c.le32_at.ensures, sym c.le32_at-then-same_board.ensures)

pub returns-else-same_board : goal.returns-else-same_board
unfolding eeprom_wins
returns-else-same_board c = rw (sym c.same_board.ensures ∙ c.if-same_board.false) c.if-same_board.false
