-- How the code goes about it: it measures the run and the pool, and then builds the image from the front. Assumes nothing.
use Rattle.std.specs.Prelude.{ℕ, ◌+◌, Option, cond, leb, length, Some, None, Ok}
use mathlib.Core.List.{List, map, flatten}
use Rattle.chain.specs.Found.{Found}
use Rattle.octets.specs.Bytes.{run}
use Rattle.octets.specs.Cut.{cut}
use Rattle.tiny_writer.specs.Run.{run_size, rule46, laid}
use Rattle.tiny_writer.specs.Measured.{Measured}
use Rattle.verdict.specs.Verdict.{refusal}

-- the bytes in the image of the run's item at p
unfoldable pub laid_at : List ℕ → ℕ → List ℕ
laid_at r p = laid (run r p (run_size r p))

-- and of its items from there on
unfoldable pub laid_from : List ℕ → ℕ → List ℕ
laid_from r p = flatten (map laid (cut run_size r (length r) p))

-- where 46 is broken, its refusal; else the count of the items' bytes
abbrev pub measured_if : List ℕ → Found → Measured
measured_if r (Some n) = refusal 46 n
measured_if r None = Ok (length (laid_from r 0))

-- what the measure answers
unfoldable pub measured : List ℕ → Measured
measured r = measured_if r (rule46 r)

-- the pool's bytes: tag, length byte and data
abbrev pub pool_bytes : Option (List ℕ) → ℕ
pool_bytes (Some pool) = 2 + length pool
pool_bytes None = 0

-- a length, if an image may have it
abbrev pub fitting : ℕ → Option ℕ
fitting n = cond (leb n 255) (Some n) None
