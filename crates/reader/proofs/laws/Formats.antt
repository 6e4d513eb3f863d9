-- What holds of every format: each item starts further on than the one before it, and the count of an accepted image counts its items. Assumes nothing.
use Rattle.std.specs.Prelude.{ℕ, ◌<◌, List, ◌≡◌, length, Ok}
use Rattle.board_layout.proofs.laws.Layout as board
use Rattle.board_rules.proofs.laws.Accepted as board-rules
use Rattle.kinds.specs.declared.Kinds.{Kinds}
use Rattle.reader.specs.Formats.{judged, next, places}
use Rattle.reader.specs.declared.Format.{Format}
use Rattle.reader.specs.declared.Format.TheVariants.{Tiny, Board}
use Rattle.tiny_layout.proofs.laws.Layout as tiny
use Rattle.tiny_rules.proofs.laws.Accepted as tiny-rules

-- the next item starts further on
pub places-grow : (f : Format) (s : List ℕ) (p : ℕ) → p < next f s p
places-grow Tiny s p = tiny.next-grows s p
places-grow Board s p = board.next-grows s p

-- the count is how many items there are
pub accepted-count : (f : Format) (k : Kinds) (s : List ℕ) (c : ℕ) → judged f k s ≡ Ok c → length (places f s) ≡ c
accepted-count Tiny k s c e = tiny-rules.accepted-count k s c e
accepted-count Board k s c e = board-rules.accepted-count k s c e
