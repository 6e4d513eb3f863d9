-- What is shown of an item. Paper 01, the table of tags; "An item not known shows only its kind, place and length." Assumes nothing.
use Rattle.std.specs.Prelude.{ℕ, ◌+◌, ◌-◌, cond, List, [], ◌∷◌, length, Some}
use Rattle.kinds.specs.declared.Kinds.{Kinds}
use Rattle.octets.specs.Bytes.{byte, le16, run}
use Rattle.tiny_layout.specs.Layout.{data_length, data_at}
use Rattle.tiny_layout.specs.Pool.{is_known, pool_at}
use Rattle.tiny_layout.specs.Strings.{texts, reference}
use Rattle.tiny_layout.specs.Tags.{shape_of}
use Rattle.tiny_layout.specs.declared.Pool.{Pool}
use Rattle.tiny_layout.specs.declared.Shape.{Shape}
use Rattle.tiny.specs.declared.Batched.{Batched}
use Rattle.tiny.specs.declared.Identity.{Identity}
use Rattle.tiny.specs.declared.Item.{Item}
use Rattle.tiny.specs.declared.PoolShown.{PoolShown}
use Rattle.tiny.specs.declared.ShownItem.{ShownItem}

-- 61, 62: "serial index, part index, major, minor, two characters"; the indexes are shown as the strings they name
unfoldable pub identity_at : List ℕ → Pool → ℕ → Identity
identity_at s pool start =
    record {
      serial = reference s pool (byte s start);
      part = reference s pool (byte s (start + 1));
      major = byte s (start + 2);
      minor = byte s (start + 3);
      characters = byte s (start + 4) ∷ byte s (start + 5) ∷ [];
    }

-- 80, 81: "as 61, but batch number (two bytes) at the end"
unfoldable pub batched_at : List ℕ → Pool → ℕ → Batched
batched_at s pool start = record { identity = identity_at s pool start; batch = le16 s (start + 6) }

-- 01: the string count; place and length of the data
unfoldable pub pool_shown : List ℕ → Pool → PoolShown
pool_shown s pool =
    record { count = length (texts s pool); bytes = record { place = pool.from; length = pool.to - pool.from } }

-- the fields of the item at p, by the row of its tag; strings are those of the pool given
abbrev pub fields_at : List ℕ → Pool → Shape → ℕ → Item
fields_at s pool Shape.Pool p = Item.Pool (pool_shown s (pool_at s (Some p)))
fields_at s pool Shape.Serial p = Item.Serial (reference s pool (byte s (data_at s p)))
fields_at s pool Shape.Flags p = Item.Flags (byte s (data_at s p))
fields_at s pool Shape.Address p = Item.Address (run s (data_at s p) 6)
fields_at s pool Shape.Identity p = Item.Identity (identity_at s pool (data_at s p))
fields_at s pool Shape.Batched p = Item.Batched (batched_at s pool (data_at s p))
fields_at s pool Shape.Other p = Item.NotKnown

-- the item at p: tag, place and data length of every item, and the fields of one whose tag is on the list
unfoldable pub item_at : Kinds → List ℕ → Pool → ℕ → ShownItem
item_at k s pool p =
    record {
      tag = byte s p;
      place = p;
      length = data_length s p;
      item = cond (is_known k s p) (fields_at s pool (shape_of (byte s p)) p) Item.NotKnown;
    }
