-- Demand 1: "A reader or writer takes every image of every length, ends, and touches nothing beyond it. A bad image gets the one number and place that the build
-- paper fixes, and a refused call changes no byte in any buffer lent to it." The first sentence is what it means that a function without a `requires` is proved;
-- `Demand1` is the second, and it is proved in proofs/Demand1. Assumes nothing.
use Rattle.std.specs.Prelude.{ℕ, List, ◌↔◌, ◌≡◌}
use Rattle.board_rules.specs.Broken as board-rules
use Rattle.board_writer.specs.Parts as board-parts
use Rattle.board_writer.specs.Written as board-writer
use Rattle.kinds.specs.declared.Kinds.{Kinds}
use Rattle.promises.specs.Answers.{FurtherAnswers, Answers, answers}
use Rattle.reader.specs.declared.Entry.{Entry}
use Rattle.reader.specs.declared.Format.{Format}
use Rattle.reader.specs.declared.Format.TheVariants.{Tiny, Board}
use Rattle.tiny_rules.specs.Broken as tiny-rules
use Rattle.tiny_writer.specs.Image as tiny-parts
use Rattle.tiny_writer.specs.Written as tiny-writer
use Rattle.verdict.specs.Said.{refused, write_said}
use Rattle.verdict.specs.Table.{Row, FirstBroken}

-- the table of rules of a format, row by row in its order: at which places each is broken
abbrev pub table : Format → Kinds → List ℕ → List Row
table Tiny k s = tiny-rules.table k s
table Board k s = board-rules.table k s

-- ---- an image that is refused with n at p
-- the calls of one format
abbrev pub RefusedFurther : (f : Format) → FurtherAnswers f → ℕ → ℕ → Type 0
RefusedFurther Tiny a n p = ((i : ℕ) → a.string i ≡ refused n p) × ((b : List ℕ) → a.name b ≡ (refused n p, b))
RefusedFurther Board a n p = ((i : ℕ) → a.map_record i ≡ refused n p) × ((i j : ℕ) → a.gpio_record i j ≡ refused n p)

-- every call answers this, and every lent buffer stays
pub record RefusedWhole {f : Format} (a : Answers f) (n p : ℕ) : Type 0 where
  pub item : (i : ℕ) → a.item i ≡ refused n p
  pub list : (l : List Entry) → a.list l ≡ (refused n p, l)
  pub walk : (i : ℕ) → a.walk i ≡ refused n p
  pub further : RefusedFurther f a.further n p

pub record Demand1 : Type 0 where
  -- "the one number and place that the build paper fixes": refused with n at p exactly when n is the first rule of the table that is broken anywhere, and p is the
  -- smallest place where it is broken
  pub refusal : (f : Format) (k : Kinds) (s : List ℕ) (n p : ℕ) → ((answers f k s).judge ≡ refused n p) ↔ FirstBroken (table f k s) n p
  -- whatever is asked of the image, these are answered
  pub everywhere : (f : Format) (k : Kinds) (s : List ℕ) (n p : ℕ) → (answers f k s).judge ≡ refused n p → RefusedWhole (answers f k s) n p
  -- "a refused call changes no byte in any buffer lent to it": the list, the name and the two writers, whatever the refusal
  pub list : (f : Format) (k : Kinds) (s : List ℕ) (l : List Entry) (n p : ℕ) → ((answers f k s).list l).0 ≡ refused n p → ((answers f k s).list l).1 ≡ l
  pub name : (k : Kinds) (s b : List ℕ) (n p : ℕ) → ((answers Tiny k s).further.name b).0 ≡ refused n p → ((answers Tiny k s).further.name b).1 ≡ b
  pub tiny_writer : (x : tiny-parts.Parts) (b : List ℕ) (n p : ℕ) → write_said (tiny-writer.written x b).0 ≡ refused n p → (tiny-writer.written x b).1 ≡ b
  pub board_writer : (x : board-parts.Parts) (b : List ℕ) (n p : ℕ) → write_said (board-writer.written x b).0 ≡ refused n p → (board-writer.written x b).1 ≡ b
