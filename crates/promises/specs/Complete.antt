-- Which bytes the answers tell. Demand 2: "Each field shown is the field those rules define." Two accepted images that are answered alike agree on every byte but
-- those that no answer is about; and images that agree on all others are answered alike. So a reader that shows too little, or a wrong field, breaks the first,
-- and one that shows what no rule defines the second. `Complete` is the claim, over any format; it is proved in proofs/Complete. Assumes nothing.
use Rattle.std.specs.Prelude.{ℕ, ◌<◌, List, ◌⊎◌, ◌≡◌}
use Rattle.board.specs.NotShown as board
use Rattle.kinds.specs.declared.Kinds.{Kinds}
use Rattle.octets.specs.Bytes.{Octets, byte}
use Rattle.promises.specs.Answers.{FurtherAnswers, answers}
use Rattle.promises.specs.Demand3.{Accepted}
use Rattle.reader.specs.Formats.{image_length}
use Rattle.reader.specs.declared.Format.{Format}
use Rattle.reader.specs.declared.Format.TheVariants.{Tiny, Board}
use Rattle.tiny.specs.NotShown as tiny

-- the bytes that no answer is about
abbrev pub NotShown : Format → Kinds → List ℕ → ℕ → Type 0
NotShown Tiny k s q = tiny.NotShown k s q
NotShown Board k s q = board.NotShown k s q

-- bytes that are shown, but not so that they can be told: the number of a string, since two strings of a pool may have one text (request R-7 shows its place);
-- and the versions of a structure not known, which tell that it is not (request R-10 shows them)
abbrev pub NotTold : Format → Kinds → List ℕ → ℕ → Type 0
NotTold Tiny k s q = tiny.InIndex k s q
NotTold Board k s q = board.VersionUnknown k s q

-- two images of one length that agree on each byte that is not free
pub record AgreeBut (f : Format) (free : ℕ → Type 0) (s t : List ℕ) : Type 0 where
  pub length : image_length f s ≡ image_length f t
  pub bytes : (q : ℕ) → q < image_length f s → (byte s q ≡ byte t q) ⊎ free q

-- the same strings by number; the same records by number
abbrev pub SameFurther : (f : Format) → FurtherAnswers f → FurtherAnswers f → Type 0
SameFurther Tiny a b = (n : ℕ) → a.string n ≡ b.string n
SameFurther Board a b = ((n : ℕ) → a.map_record n ≡ b.map_record n) × ((i n : ℕ) → a.gpio_record i n ≡ b.gpio_record i n)

pub record Complete (f : Format) : Type 0 where
  -- the answers for items by number, and for strings or records by number, tell all other bytes
  pub told : (k : Kinds) (s t : List ℕ) → Octets s → Octets t → Accepted (answers f k s) → Accepted (answers f k t)
      → ((i : ℕ) → (answers f k s).item i ≡ (answers f k t).item i) → SameFurther f (answers f k s).further (answers f k t).further
      → AgreeBut f (λ q. NotShown f k s q ⊎ NotTold f k s q) s t
  -- and no answer is about the bytes that are not shown
  pub alike : (k : Kinds) (s t : List ℕ) → Accepted (answers f k s) → Accepted (answers f k t)
      → AgreeBut f (NotShown f k s) s t → answers f k s ≡ answers f k t
