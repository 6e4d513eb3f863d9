-- `entries::tiny_entry` meets its contract, field by field. Assumes nothing.
use Rattle.reader.specs.Entries.{entry_at}
use Rattle.reader.proofs.entries.tiny_entry.Goals as goal

pub returns : goal.returns
unfolding entry_at
returns c = rw (c.has_tag.ensures, c.data_length.ensures, c.byte_at-tag.ensures)
