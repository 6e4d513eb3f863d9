-- The two theorems at case 4: their premises are met there. Assumes nothing.
use Rattle.std.specs.Prelude.{ℕ, List, ◌++◌, ◌≡◌, take, drop}
use Rattle.std.proofs.Common.{ap, arith}
use Rattle.tiny_writer.specs.Examples.{blank, case4, parts4, computed}
use Rattle.tiny_writer.specs.PartsOf.{parts_of}
use Rattle.tiny_writer.specs.ReadsBack.{ReadsBack}
use Rattle.tiny_writer.specs.Written.{written}
use Rattle.tiny_writer.proofs.laws.Rebuilt.{rebuilt}
use Rattle.tiny_writer.proofs.laws.Written.{written-reads-back}
use Rattle.verdict.specs.Said.{says, write_said}
use Rattle.verdict.specs.Answers.{WriteAnswer}

-- what is written reads back
reads-back4 : ReadsBack parts4 (written parts4 (blank 14)).1
reads-back4 = written-reads-back parts4 (blank 14) 12 (ap (λ (w : WriteAnswer × List ℕ). write_said w.0) computed.written4)

-- what is accepted is rebuilt
rebuilt4 : (write_said (written (parts_of case4) (blank 14)).0 ≡ says 12) × ((written (parts_of case4) (blank 14)).1 ≡ take 12 case4 ++ drop 12 (blank 14))
rebuilt4 = rebuilt case4 2 computed.accepted4 (blank 14) (omega arith) (omega arith)
