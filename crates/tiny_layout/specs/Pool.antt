-- Items that a reader knows, and the pool that it uses: the data of the first item of tag 01, where 01 is on its list. (Rule 8 refuses a second one.)
-- Assumes nothing.
use Rattle.std.specs.Prelude.{ℕ, Bool, ◌&&◌, List, eqb, Some, None}
use Rattle.chain.specs.First.{first, when}
use Rattle.chain.specs.Found.{Found}
use Rattle.kinds.specs.Kinds.{listed}
use Rattle.kinds.specs.declared.Kind.TheVariants.{Tag}
use Rattle.kinds.specs.declared.Kinds.{Kinds}
use Rattle.octets.specs.Bytes.{byte}
use Rattle.tiny_layout.specs.Layout.{data_at, next, items}
use Rattle.tiny_layout.specs.declared.Pool.{Pool}

-- the item at p is known: its tag is on the list
abbrev pub is_known : Kinds → List ℕ → ℕ → Bool
is_known k s p = listed k (Tag (byte s p))

-- the item at p is of this tag, and known
abbrev pub is_of : Kinds → List ℕ → ℕ → ℕ → Bool
is_of k s tag p = listed k (Tag tag) && eqb (byte s p) tag

-- its place, if it is
abbrev pub known_of : Kinds → List ℕ → ℕ → ℕ → Found
known_of k s tag p = when (is_of k s tag p) p

-- the place of the listed pool, if there is one
abbrev pub pool_place : Kinds → List ℕ → Found
pool_place k s = first (known_of k s 0x01) (items s)

-- the data of the item found: from their first byte up to their end; an empty stretch without one
abbrev pub pool_at : List ℕ → Found → Pool
pool_at s (Some p) = record { from = data_at s p; to = next s p }
pool_at s None = record { from = 0; to = 0 }

-- the data of the listed pool
unfoldable pub pool : Kinds → List ℕ → Pool
pool k s = pool_at s (pool_place k s)
