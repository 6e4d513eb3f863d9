-- What the table of tags defines at a place: under each label the number, the bytes or the string at its row. Assumes nothing.
use Rattle.std.specs.Prelude.{ℕ, List, [], ◌∷◌, ◌++◌}
use Rattle.kinds.specs.declared.Kinds.{Kinds}
use Rattle.octets.specs.Bytes.{byte}
use Rattle.octets.specs.Rows as rows
use Rattle.octets.specs.Rows.{Field, Value, number, bytes, part, shown_rows}
use Rattle.tiny_layout.specs.Layout.{data_at, data_length}
use Rattle.tiny_layout.specs.Tables.{table}
use Rattle.tiny_layout.specs.Tags.{shape_of}
use Rattle.tiny.specs.Texts.{referred}
use Rattle.tiny.specs.Values.{ReferenceValue, text, undecodable, IdentityValues, FieldValues, pool, serial, flags, address, identity, batched, not_known}

-- a string as a value
abbrev pub string_value : ReferenceValue → Value
string_value (text l) = rows.text l
string_value undecodable = rows.undecodable

-- the fields of an item under their labels. (A pool's string count is no row: it is the number of its strings.)
abbrev pub identity_labelled : IdentityValues → List Field
identity_labelled x =
    ("serial", string_value x.serial)
    ∷ ("part", string_value x.part)
    ∷ ("major", number x.major)
    ∷ ("minor", number x.minor)
    ∷ ("characters", bytes x.characters)
    ∷ []

abbrev pub labelled : FieldValues → List Field
labelled (pool n p l) = ("pool", part p l) ∷ []
labelled (serial r) = ("serial", string_value r) ∷ []
labelled (flags b) = ("flags", number b) ∷ []
labelled (address l) = ("address", bytes l) ∷ []
labelled (identity x) = identity_labelled x
labelled (batched x b) = identity_labelled x ++ (("batch", number b) ∷ [])
labelled not_known = []

-- the rows of the item at p
abbrev pub item_shown : Kinds → List ℕ → ℕ → List Field
item_shown k s p = shown_rows (λ n. string_value (referred k s n)) s (data_at s p) (data_length s p) (table (shape_of (byte s p)))
