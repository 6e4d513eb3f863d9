-- Demand 3: each half goes from a reader's answers to what it sees in the image, with the verdict taken out, and there from place to place. Assumes nothing.
use Rattle.std.specs.Prelude.{Ok}
use Prim.Native.Nat.{ℕ, ◌≤◌}
use mathlib.Core.List.{List, ◌++◌}
use mathlib.Core.Path.{◌≡◌, refl, sym, ap, subst, ◌∙◌}
use native.Mathlib.Omega.{arith}
use lib.ListN.{length, drop, get_or}
use Rattle.board.specs.Values.{map_record_said}
use Rattle.board_rules.proofs.laws.Shorter as board-rules
use Rattle.kinds.specs.Kinds.{Contains}
use Rattle.kinds.specs.declared.Kinds.{Kinds}
use Rattle.promises.proofs.BoardReaders.{board-item-hidden, board-entry-hidden, map-hidden, gpio-hidden}
use Rattle.promises.proofs.Exactly.{entry-shown, unknown-exactly, undecoded-exactly, unlooked-exactly, nameless-exactly}
use Rattle.promises.proofs.Given.{answers-equal, view, judge-given, item-given, walk-given, list-given}
use Rattle.promises.proofs.Images.{SeenAlike, seen-alike, outside-shown}
use Rattle.promises.proofs.TinyReaders.{tiny-item-hidden, tiny-entry-hidden, string-hidden, name-hidden}
use Rattle.promises.proofs.Verdicts.{accepted-by, says-count}
use Rattle.promises.proofs.View as seen
use Rattle.promises.specs.Answers.{further_answers, answers}
use Rattle.promises.specs.Complete.{NotShown, AgreeBut}
use Rattle.promises.specs.Demand3.{StringsOf, TwoReaders, as_step, as_entry, SameItems, Demand3}
use Rattle.promises.specs.Hidden.{hide_item, hide_step, hide_entry, hide_list, hide_said, hide_record, hide_further, hidden}
use Rattle.reader.specs.Formats.{judged, places}
use Rattle.reader.specs.Values.{ItemValues, step_said}
use Rattle.reader.specs.declared.Entry.{Entry}
use Rattle.reader.specs.declared.Format.{Format}
use Rattle.reader.specs.declared.Format.TheVariants.{Tiny, Board}
use Rattle.reader.proofs.laws.Formats.{accepted-count}
use Rattle.reader.proofs.laws.Walk.{walk-shows}
use Rattle.tiny_rules.proofs.laws.Shorter as tiny-rules
use Rattle.verdict.specs.Said.{Said, says}

-- ---- two readers
-- what the longer accepts, the shorter accepts, with the same count
shorter-accepts :
    (f : Format) (longer shorter : Kinds) → Contains longer shorter → (s : List ℕ) (n : ℕ)
    → judged f longer s ≡ Ok n → judged f shorter s ≡ Ok n
shorter-accepts Tiny = tiny-rules.shorter-accepts
shorter-accepts Board = board-rules.shorter-accepts

module _ (longer shorter : Kinds) (contains : Contains longer shorter) (s : List ℕ) where
  -- at each place
  item-hidden : (f : Format) (p : ℕ) → (view f shorter s).item p ≡ hide_item shorter ((view f longer s).item p)
  item-hidden Tiny = tiny-item-hidden longer shorter contains s
  item-hidden Board = board-item-hidden longer shorter contains s

  entry-hidden : (f : Format) (p : ℕ) → (view f shorter s).entry p ≡ hide_entry f shorter ((view f longer s).entry p)
  entry-hidden Tiny = tiny-entry-hidden longer shorter contains s
  entry-hidden Board = board-entry-hidden longer shorter contains s

  -- the calls of one format
  further-hidden : (f : Format) (n : ℕ) → judged f longer s ≡ Ok n → judged f shorter s ≡ Ok n
      → further_answers f shorter s ≡ hide_further f shorter (answers f longer s).item (further_answers f longer s)
  further-hidden Tiny n e d = λ x. record {
    string = λ i. string-hidden longer shorter contains s n e d i x;
    name = λ b. name-hidden longer shorter contains s n e d b x;
  }
  further-hidden Board n e d = λ x. record {
    map_record = λ i. map_record_said (map-hidden longer shorter contains s n e d i x);
    gpio_record = λ i m.
        (gpio-hidden longer shorter contains s n e d i m
        ∙ ap (λ (a : Said ItemValues). hide_record shorter a ((further_answers Board longer s).gpio_record i m)) (sym (item-given Board longer s n e i))) x;
  }

  module _ (f : Format) (n : ℕ) (e : judged f longer s ≡ Ok n) where
    d : judged f shorter s ≡ Ok n
    d = shorter-accepts f longer shorter contains s n e

    readers-alike : answers f shorter s ≡ hidden f shorter (answers f longer s)
    unfolding answers hidden
    readers-alike =
        let hide : Entry → Entry = hide_entry f shorter in
        let v = view f shorter s in
        let w = view f longer s in
        answers-equal f (answers f shorter s) (hidden f shorter (answers f longer s))
        (says-count f shorter s n d ∙ sym (says-count f longer s n e))
        (λ i.
        item-given f shorter s n d i ∙ seen.item-hides shorter hide v w refl (item-hidden f) (entry-hidden f) i
        ∙ sym (ap (hide_said (hide_item shorter)) (item-given f longer s n e i)))
        (λ l.
        list-given f shorter s n d l ∙ seen.list-hides shorter hide v w refl (item-hidden f) (entry-hidden f) l
        ∙ sym (ap (λ (a : Said ℕ × List Entry). hide_list hide a.0 a.1) (list-given f longer s n e l)))
        (λ i.
        walk-given f shorter s n d i ∙ seen.step-hides shorter hide v w refl (item-hidden f) (entry-hidden f) i
        ∙ sym (ap (hide_said (hide_step shorter)) (walk-given f longer s n e i)))
        (further-hidden f n e d)

    -- both directions for strings and names
    strings-exactly : (g : Format) → f ≡ g → StringsOf g longer shorter s
    strings-exactly Tiny is =
        let longer-accepts = subst (λ (x : Format). judged x longer s ≡ Ok n) is e in
        let shorter-accepts = subst (λ (x : Format). judged x shorter s ≡ Ok n) is d in
        record {
          undecoded = undecoded-exactly shorter s n shorter-accepts;
          unlooked = unlooked-exactly shorter s n shorter-accepts;
          nameless = nameless-exactly longer shorter contains s n longer-accepts shorter-accepts;
        }
    strings-exactly Board is = tt

    two-readers : TwoReaders f longer shorter s
    two-readers =
        record {
          accepted = (n, says-count f shorter s n d);
          alike = readers-alike;
          unknown = unknown-exactly f shorter s n d;
          strings = strings-exactly f refl;
        }

-- ---- two images
-- that agree on every byte that is shown
pub images-alike : (f : Format) (k : Kinds) (s t : List ℕ) (c d : ℕ) → judged f k s ≡ Ok c → judged f k t ≡ Ok d
    → AgreeBut f (NotShown f k s) s t → answers f k s ≡ answers f k t
unfolding answers
images-alike f k s t c d e g same =
    let both : SeenAlike f k s t = seen-alike f k s t c d e g same in
    let v = view f k s in
    let w = view f k t in
    answers-equal f (answers f k s) (answers f k t)
    (judge-given f k s c e ∙ ap (λ (l : List ℕ). says (length l)) both.places ∙ sym (judge-given f k t d g))
    (λ i. item-given f k s c e i ∙ seen.item-same v w both.places both.items both.entries i ∙ sym (item-given f k t d g i))
    (λ l. list-given f k s c e l ∙ seen.list-same v w both.places both.items both.entries l ∙ sym (list-given f k t d g l))
    (λ i. walk-given f k s c e i ∙ seen.step-same v w both.places both.items both.entries i ∙ sym (walk-given f k t d g i))
    both.further

-- ---- one reader
same-items : (f : Format) (k : Kinds) (s : List ℕ) (n : ℕ) → judged f k s ≡ Ok n → SameItems (answers f k s) n
same-items f k s n e =
    let v = view f k s in
    let count : length (places f s) ≡ n = accepted-count f k s n e in
    let full : (l : List Entry) → n ≤ length l → (answers f k s).list l ≡ (says n, seen.es v ++ drop n l) =
    λ l h. list-given f k s n e l ∙ seen.list-fills v l (omega (arith, count)) ∙ ap (λ (m : ℕ). (says m, seen.es v ++ drop m l)) count in
    record {
      below = λ i h. (v.item (get_or (places f s) i 0), item-given f k s n e i ∙ seen.item-below v i (omega (arith, count)));
      beyond = λ i h. item-given f k s n e i ∙ seen.item-beyond v i (omega (arith, count));
      walk = λ i h. walk-given f k s n e i ∙ seen.walk-shows v i (omega (arith, count)) ∙ sym (ap as_step (item-given f k s n e i));
      ends = λ i h. walk-given f k s n e i ∙ seen.walk-ends v i (omega (arith, count));
      filled = λ l h. ap (λ (a : Said ℕ × List Entry). a.0) (full l h);
      entry = λ l h i x said d0.
          ap (λ (a : Said ℕ × List Entry). get_or a.1 i d0) (full l h)
          ∙ seen.entry-shows v as_entry (entry-shown f k s) (drop n l) i x (sym (item-given f k s n e i) ∙ said) d0;
      rest = λ l h i past d0.
          ap (λ (a : Said ℕ × List Entry). get_or a.1 i d0) (full l h) ∙ seen.rest-stays v n count l i past d0;
      short = λ l h. list-given f k s n e l ∙ seen.list-short v l (omega (arith, count));
    }

-- ---- the claim
pub demand3 : (f : Format) → Demand3 f
unfolding answers
demand3 f =
    record {
      readers = λ longer shorter contains s a. two-readers longer shorter contains s f a.0 (accepted-by f longer s a.0 a.1);
      images = λ k s t a b same.
          let e = accepted-by f k s a.0 a.1 in
          let g = accepted-by f k t b.0 b.1 in
          images-alike f k s t a.0 b.0 e g (outside-shown f k s t same);
      walks = λ k s i. ap (step_said s.now) (walk-shows f s k i);
      calls = λ k s n said. same-items f k s n (accepted-by f k s n said);
    }
