-- What is read of an image that was written of these parts. Demand 2: "What the writers write is accepted and reads back as given". Assumes nothing.
use Rattle.std.specs.Prelude.{ℕ, List, ◌≡◌, None, Ok}
use Rattle.board_rules.specs.Judged.{judged}
use Rattle.board_rules.specs.Rules.{prom_sig_at}
use Rattle.board_writer.specs.Parts.{Parts}
use Rattle.board_writer.specs.PartsOf.{parts_of}
use Rattle.kinds.specs.Kinds.{full}

-- bytes whose front is an image of these parts: what a reader with the full list finds there
pub record ReadsBack (x : Parts) (s : List ℕ) : Type 0 where
  pub count : ℕ
  pub accepted : judged full s ≡ Ok count
  pub unsigned : prom_sig_at s ≡ None
  pub same : parts_of s ≡ x
