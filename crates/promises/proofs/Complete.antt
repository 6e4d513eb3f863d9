-- The answers tell each byte that an answer is about, and no other: both directions, over any format. Assumes nothing.
use Rattle.std.specs.Prelude.{Ok}
use Prim.Native.Nat.{ℕ}
use mathlib.Core.List.{List}
use mathlib.Core.Logic.{◌⊎◌}
use mathlib.Core.Path.{◌≡◌}
use Rattle.kinds.specs.declared.Kinds.{Kinds}
use Rattle.octets.specs.Bytes.{Octets}
use Rattle.promises.proofs.CompleteBoard.{board-told}
use Rattle.promises.proofs.CompleteTiny.{tiny-told}
use Rattle.promises.proofs.Demand3.{images-alike}
use Rattle.promises.proofs.Verdicts.{accepted-by}
use Rattle.promises.specs.Answers.{answers}
use Rattle.promises.specs.Complete.{NotShown, NotTold, AgreeBut, SameFurther, Complete}
use Rattle.reader.specs.Formats.{judged}
use Rattle.reader.specs.declared.Format.{Format}
use Rattle.reader.specs.declared.Format.TheVariants.{Tiny, Board}

all-told : (f : Format) (k : Kinds) (s t : List ℕ) → Octets s → Octets t → (c d : ℕ) → judged f k s ≡ Ok c → judged f k t ≡ Ok d
    → ((i : ℕ) → (answers f k s).item i ≡ (answers f k t).item i) → SameFurther f (answers f k s).further (answers f k t).further
    → AgreeBut f (λ q. NotShown f k s q ⊎ NotTold f k s q) s t
all-told Tiny = tiny-told
all-told Board = board-told

pub complete : (f : Format) → Complete f
complete f =
    record {
      told = λ k s t good fine a b.
          all-told f k s t good fine a.0 b.0 (accepted-by f k s a.0 a.1) (accepted-by f k t b.0 b.1);
      alike = λ k s t a b. images-alike f k s t a.0 b.0 (accepted-by f k s a.0 a.1) (accepted-by f k t b.0 b.1);
    }
