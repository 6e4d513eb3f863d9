-- What is read of an image that was written of these parts. Demand 2: "What the writers write is accepted and reads back as given". Assumes nothing.
use Rattle.std.specs.Prelude.{ℕ, ◌+◌, List, ◌≡◌, length, Ok}
use Rattle.kinds.specs.Kinds.{full}
use Rattle.tiny_rules.specs.Judged.{judged}
use Rattle.tiny_writer.specs.Image.{Parts, pool_items}
use Rattle.tiny_writer.specs.PartsOf.{parts_of}
use Rattle.tiny_writer.specs.Run.{run_items}

-- a buffer whose front is an image of these parts: what a reader with the full list finds there
pub record ReadsBack (x : Parts) (s : List ℕ) : Type 0 where
  pub accepted : judged full s ≡ Ok (length (run_items x.run) + length (pool_items x.pool))
  pub same : parts_of s ≡ x
