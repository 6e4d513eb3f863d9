-- The list of entries. Paper 01: "a lent list of entries, one for each item, filled from the front, the rest unchanged. An entry holds kind (the tag, or the
-- eight signature bytes), place (of its first byte), data length and whether it is known." Assumes nothing.
use Rattle.std.specs.Prelude.{ℕ, List, map}
use Rattle.kinds.specs.declared.Kinds.{Kinds}
use Rattle.reader.specs.Formats.{places, kind_at, length_at, known}
use Rattle.reader.specs.declared.Entry.{Entry}
use Rattle.reader.specs.declared.Format.{Format}

-- the entry of the item at p
unfoldable pub entry_at : Format → Kinds → List ℕ → ℕ → Entry
entry_at f k s p = record { kind = kind_at f s p; place = p; length = length_at f s p; known = known f k s p }

-- an entry for each item, in image order
abbrev pub entries : Format → Kinds → List ℕ → List Entry
entries f k s = map (entry_at f k s) (places f s)
