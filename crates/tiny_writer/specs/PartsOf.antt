-- The run and the pool of an image. Paper 01, "Writers": "An image accepted with the full list can be rebuilt if it is tiny". Assumes nothing.
use Rattle.std.specs.Prelude.{ℕ, Bool, Option, Some, None, not, drop}
use mathlib.Core.List.{List, [], ◌∷◌, map, flatten}
use Rattle.chain.specs.Keep.{keep}
use Rattle.octets.specs.Bytes.{byte, run}
use Rattle.tiny_layout.specs.Layout.{size, items}
use Rattle.tiny_writer.specs.Image.{Parts}
use Rattle.tiny_writer.specs.Run.{is_pool_tag, given}

-- the items of an image, each as its bytes
abbrev pub item_bytes : List ℕ → List (List ℕ)
item_bytes s = map (λ p. run s p (size s p)) (items s)

-- an item is a pool: its first byte, the tag, is 01
abbrev pub is_pool : List ℕ → Bool
is_pool x = is_pool_tag (byte x 0)

-- the items that are not
abbrev pub others : List (List ℕ) → List (List ℕ)
others xs = keep (λ x. not (is_pool x)) xs

-- the items but the pool, as a run has them
unfoldable pub run_of : List ℕ → List ℕ
run_of s = flatten (map given (others (item_bytes s)))

-- the data of the first item of these, past its tag and length byte
abbrev pub data_of : List (List ℕ) → Option (List ℕ)
data_of [] = None
data_of (x ∷ xs) = Some (drop 2 x)

-- the pool's data, or none
unfoldable pub pool_of : List ℕ → Option (List ℕ)
pool_of s = data_of (keep is_pool (item_bytes s))

-- both, as the writer takes them
abbrev pub parts_of : List ℕ → Parts
parts_of s = record { run = run_of s; pool = pool_of s }
