-- What a reader answers about an image that it accepts, with the verdict taken out: the four calls of every format are those of its view. Assumes nothing.
use Rattle.std.specs.Prelude.{Some, None, Ok, Err}
use Prim.Native.Nat.{ℕ}
use mathlib.Core.Bool.{Bool, true, false, cond}
use mathlib.Core.List.{List}
use mathlib.Core.Path.{◌≡◌, refl, sym, ap, ◌∙◌}
use lib.Dec.{leb}
use lib.ListN.{length, length-map}
use Rattle.chain.specs.Nth.{nth}
use Rattle.chain.specs.Found.{Found}
use Rattle.kinds.specs.declared.Kinds.{Kinds}
use Rattle.promises.proofs.View.{View, item_from, step_from, fill_if, list_from}
use Rattle.promises.specs.Answers.{Answers, answers}
use Rattle.reader.specs.Answers.{refused_with, numbered, item_if, item_numbered, list_holds, list_if, list_of}
use Rattle.reader.specs.Entries.{entry_at, entries}
use Rattle.reader.specs.Formats.{judged, places}
use Rattle.reader.specs.Items.{pool_of, item_at}
use Rattle.reader.specs.Values.{item_values, item_said, step_said, list_said}
use Rattle.reader.specs.declared.Entry.{Entry}
use Rattle.reader.specs.declared.Format.{Format}
use Rattle.reader.specs.AnswerTypes.{ListAnswer}
use Rattle.reader.proofs.laws.Formats.{accepted-count}
use Rattle.reader.proofs.laws.Walk.{step_found, step-accepted}
use Rattle.verdict.specs.Said.{says, judged_said}
use Rattle.verdict.specs.Answers.{Judged}

-- two readers' answers are equal when each call answers the same, whatever it is asked
pub answers-equal :
    (f : Format) (a b : Answers f) → a.judge ≡ b.judge → ((i : ℕ) → a.item i ≡ b.item i) → ((l : List Entry) → a.list l ≡ b.list l)
    → ((i : ℕ) → a.walk i ≡ b.walk i) → a.further ≡ b.further → a ≡ b
answers-equal f a b j i l w x = λ t. record { judge = j t; item = λ n. i n t; list = λ n. l n t; walk = λ n. w n t; further = x t }

-- what the reader sees
abbrev pub view : Format → Kinds → List ℕ → View
view f k s = record { places = places f s; item = λ p. item_values s (item_at f k s (pool_of f k s) p); entry = entry_at f k s }

module _ (f : Format) (k : Kinds) (s : List ℕ) (n : ℕ) (e : judged f k s ≡ Ok n) where
  pub judge-given : (answers f k s).judge ≡ says (length (places f s))
  unfolding answers
  judge-given = ap judged_said e ∙ ap says (sym (accepted-count f k s n e))

  pub item-given : (i : ℕ) → (answers f k s).item i ≡ item_from (view f k s) (nth (places f s) i)
  unfolding answers item_numbered
  item-given i = ap (λ (j : Judged). item_said s (item_if f k s i j)) e ∙ go (nth (places f s) i)
    where
      go : (x : Found) → item_said s (numbered f k s x) ≡ item_from (view f k s) x
      go (Some p) = refl
      go None = refl

  pub walk-given : (i : ℕ) → (answers f k s).walk i ≡ step_from (view f k s) (nth (places f s) i)
  unfolding answers
  walk-given i = ap (step_said s) (step-accepted f k s n e i) ∙ go (nth (places f s) i)
    where
      go : (x : Found) → step_said s (step_found f k s x) ≡ step_from (view f k s) x
      go (Some p) = refl
      go None = refl

  pub list-given : (l : List Entry) → (answers f k s).list l ≡ list_from (view f k s) l
  unfolding answers list_of
  list-given l =
      ap (λ (j : Judged). (list_said (list_if f k s l j).0, (list_if f k s l j).1)) e ∙ go (leb n (length l))
      ∙ ap (λ (m : ℕ). fill_if (leb m (length l)) m (entries f k s) l) (sym (accepted-count f k s n e) ∙ sym (length-map (places f s) (entry_at f k s)))
    where
      answered : Bool → ListAnswer
      answered b = cond b (Ok n) (Err (refused_with 43))

      go : (b : Bool) → (list_said (answered b), list_holds (entries f k s) l (answered b)) ≡ fill_if b n (entries f k s) l
      go true = refl
      go false = refl
