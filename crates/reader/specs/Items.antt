-- The item at a place, as its format shows it. Assumes nothing.
use Rattle.std.specs.Prelude.{ℕ, List}
use Rattle.board.specs.Items as board
use Rattle.kinds.specs.declared.Kinds.{Kinds}
use Rattle.reader.specs.declared.Format.{Format}
use Rattle.reader.specs.declared.Format.TheVariants.{Tiny, Board}
use Rattle.reader.specs.declared.Item.{Item}
use Rattle.tiny.specs.Items as tiny
use Rattle.tiny_layout.specs.Pool.{pool}
use Rattle.tiny_layout.specs.declared.Pool.{Pool}

-- the pool that the strings of an image lie in; board images have none
abbrev pub pool_of : Format → Kinds → List ℕ → Pool
pool_of Tiny k s = pool k s
pool_of Board k s = record { from = 0; to = 0 }

-- the item at p, whose strings lie in this pool
abbrev pub item_at : Format → Kinds → List ℕ → Pool → ℕ → Item
item_at Tiny k s x p = Item.Tiny (tiny.item_at k s x p)
item_at Board k s x p = Item.Board (board.item_at k s p)
