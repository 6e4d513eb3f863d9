-- `fields::pool_shown` meets its contract: the item is the first of the part, which has the same texts. Assumes nothing.
use Rattle.tiny.specs.Items.{pool_shown}
use Rattle.tiny.proofs.laws.Part.{data-length, texts-part}
use Rattle.tiny.proofs.fields.pool_shown.Goals as goal

pub returns : goal.returns
unfolding pool_shown
returns c = let a = c.args in
    rw (c.string_count.ensures, c.pool_at.ensures, c.part_from-part.ensures, texts-part a.image.now a.at, c.head_size.ensures, c.byte_at.ensures, c.data_length.ensures, data-length)
