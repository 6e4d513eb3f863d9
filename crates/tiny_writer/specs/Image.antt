-- The image that the writer makes of a run and a pool. Paper 01, "Writers": "the pool's data or none; the pool goes last". "Tiny image": "Bytes: 56h,
-- version 02h, total length L, items, check." Assumes nothing.
use Rattle.std.specs.Prelude.{ℕ, ◌+◌, Option, Some, None, length}
use mathlib.Core.List.{List, [], ◌∷◌, ◌++◌, map, flatten}
use Rattle.crc.specs.Crc8.{crc8}
use Rattle.tiny_writer.specs.Run.{run_items, laid}

-- what the writer takes: a run of items, and the pool's data or none
pub record Parts : Type 0 where
  pub run : List ℕ
  pub pool : Option (List ℕ)

-- both, one by one
abbrev pub parts : List ℕ → Option (List ℕ) → Parts
parts run pool = record { run = run; pool = pool }

-- the pool as an item: tag 01, its length, its data
abbrev pub pool_items : Option (List ℕ) → List (List ℕ)
pool_items None = []
pool_items (Some pool) = (0x01 ∷ (length pool ∷ pool)) ∷ []

-- the items of the image: those of the run in their order, then the pool
abbrev pub laid_items : Parts → List (List ℕ)
laid_items x = map laid (run_items x.run) ++ pool_items x.pool

-- the bytes of these items, end to end
unfoldable pub body : Parts → List ℕ
body x = flatten (laid_items x)

-- the total length L: header (3), items, check (1)
abbrev pub image_length : Parts → ℕ
image_length x = length (body x) + 4

-- all but the check byte
abbrev pub unchecked : Parts → List ℕ
unchecked x = 0x56 ∷ (0x02 ∷ (image_length x ∷ body x))

-- "The check is CRC-8 over the first L - 1 bytes"
unfoldable pub image : Parts → List ℕ
image x = unchecked x ++ (crc8 (unchecked x) ∷ [])
