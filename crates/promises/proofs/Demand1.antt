-- Demand 1: what a refusal tells, that every call passes it on, and that no lent buffer changes. Assumes nothing.
use Rattle.std.specs.Prelude.{Ok, Err}
use Prim.Native.Nat.{ℕ}
use mathlib.Core.List.{List}
use mathlib.Core.Logic.{◌↔◌}
use mathlib.Core.Path.{◌≡◌, refl, ap}
use lib.ListN.{length}
use Rattle.board.specs.Answers.{map_record_if, map_record_numbered, gpio_record_if, gpio_record_numbered}
use Rattle.board.specs.Values.{map_record_said, gpio_record_said}
use Rattle.board_rules.proofs.laws.Table as board-table
use Rattle.board_writer.proofs.laws.Written as board-writer
use Rattle.kinds.specs.declared.Kinds.{Kinds}
use Rattle.promises.proofs.Verdicts.{refused-by, says-refused}
use Rattle.promises.specs.Answers.{further_answers, answers}
use Rattle.promises.specs.Demand1.{table, RefusedFurther, RefusedWhole, Demand1}
use Rattle.reader.specs.Answers.{item_if, item_numbered, list_answer, list_holds, list_if, list_of}
use Rattle.reader.specs.Entries.{entries}
use Rattle.reader.specs.Formats.{judged}
use Rattle.reader.specs.Values.{item_said, step_said, list_said}
use Rattle.reader.specs.declared.Entry.{Entry}
use Rattle.reader.specs.declared.Format.{Format}
use Rattle.reader.specs.declared.Format.TheVariants.{Tiny, Board}
use Rattle.reader.specs.AnswerTypes.{ListAnswer}
use Rattle.reader.proofs.laws.Walk.{step-refused}
use Rattle.tiny.specs.Answers.{string_if, string_numbered, name_if, name_of}
use Rattle.tiny.specs.Values.{string_said, name_said}
use Rattle.tiny.proofs.laws.Exactly as tiny
use Rattle.tiny.specs.AnswerTypes.{NameAnswer}
use Rattle.tiny_rules.proofs.laws.Table as tiny-table
use Rattle.tiny_writer.proofs.laws.Written as tiny-writer
use Rattle.verdict.specs.Said.{refused}
use Rattle.verdict.specs.Verdict.{refusal}
use Rattle.verdict.specs.Answers.{Judged}
use Rattle.verdict.specs.Table.{FirstBroken}

-- ---- the judge goes by the table
refused-exactly : (f : Format) (k : Kinds) (s : List ℕ) (n p : ℕ) → ((answers f k s).judge ≡ refused n p) ↔ FirstBroken (table f k s) n p
refused-exactly f k s n p = (λ e. (by f).0 (refused-by f k s n p e), λ b. says-refused f k s n p ((by f).1 b))
  where
    by : (f : Format) → (judged f k s ≡ refusal n p) ↔ FirstBroken (table f k s) n p
    by Tiny = tiny-table.refused-exactly k s n p
    by Board = board-table.refused-exactly k s n p

-- ---- every call passes the image's refusal on
further-refused : (f : Format) (k : Kinds) (s : List ℕ) (n p : ℕ) → judged f k s ≡ refusal n p → RefusedFurther f (further_answers f k s) n p
unfolding string_numbered name_of map_record_numbered gpio_record_numbered
further-refused Tiny k s n p e = (
  λ i. ap (λ (j : Judged). string_said s (string_if k s i j)) e,
  λ b. ap (λ (j : Judged). (name_said (name_if k s b j).0, (name_if k s b j).1)) e,
)
further-refused Board k s n p e = (
  λ i. ap (λ (j : Judged). map_record_said (map_record_if s i j)) e,
  λ i m. ap (λ (j : Judged). gpio_record_said (gpio_record_if k s i m j)) e,
)

whole-refused : (f : Format) (k : Kinds) (s : List ℕ) (n p : ℕ) → judged f k s ≡ refusal n p → RefusedWhole (answers f k s) n p
unfolding answers item_numbered list_of
whole-refused f k s n p e =
    record {
      item = λ i. ap (λ (j : Judged). item_said s (item_if f k s i j)) e;
      list = λ l. ap (λ (j : Judged). (list_said (list_if f k s l j).0, (list_if f k s l j).1)) e;
      walk = λ i. ap (step_said s) (step-refused f k s (record { number = n; place = p }) e i);
      further = further-refused f k s n p e;
    }

-- ---- a refused call leaves what it was lent
list-unchanged : (f : Format) (k : Kinds) (s : List ℕ) (l : List Entry) (n p : ℕ) → ((answers f k s).list l).0 ≡ refused n p → ((answers f k s).list l).1 ≡ l
unfolding answers list_of
list-unchanged f k s l n p e = go (list_answer (length l) (judged f k s)) e
  where
    go : (a : ListAnswer) → list_said a ≡ refused n p → list_holds (entries f k s) l a ≡ l
    go (Ok c) d = cc
    go (Err r) d = refl

name-unchanged : (k : Kinds) (s b : List ℕ) (n p : ℕ) → ((answers Tiny k s).further.name b).0 ≡ refused n p → ((answers Tiny k s).further.name b).1 ≡ b
unfolding answers
name-unchanged k s b n p e = go (name_of k s b).0 refl e
  where
    go : (a : NameAnswer) → (name_of k s b).0 ≡ a → name_said a ≡ refused n p → (name_of k s b).1 ≡ b
    go (Ok m) c d = cc
    go (Err r) c d = tiny.refused-unchanged k s b r c

pub demand1 : Demand1
demand1 =
    record {
      refusal = refused-exactly;
      everywhere = λ f k s n p e. whole-refused f k s n p (refused-by f k s n p e);
      list = list-unchanged;
      name = name-unchanged;
      tiny_writer = tiny-writer.refused-unchanged;
      board_writer = board-writer.refused-unchanged;
    }
