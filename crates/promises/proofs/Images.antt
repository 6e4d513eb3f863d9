-- Two accepted images that agree on every byte that is shown: one reader sees the same in both, at each place, and answers the calls of the format alike.
-- Assumes nothing.
use Rattle.std.specs.Prelude.{Ok}
use Prim.Native.Nat.{ℕ, ◌-◌}
use mathlib.Core.List.{List, []}
use mathlib.Core.Logic.{◌⊎◌, inl, inr}
use mathlib.Core.Path.{◌≡◌, ap, ◌∙◌}
use Rattle.board.specs.Values.{map_record_said, gpio_record_said}
use Rattle.board.specs.declared.ShownItem as board-shown
use Rattle.board.specs.NotShown as board-shows
use Rattle.board.proofs.laws.Alike as board
use Rattle.board.proofs.laws.AlikeBytes.{Alike, head-alike}
use Rattle.board_layout.specs.Layout.{signature_at, major_at, shape_at, structures}
use Rattle.board_layout.specs.Places.{head_size}
use Rattle.board_layout.specs.Shapes.{knows}
use Rattle.board_layout.proofs.laws.Same.{signature-same, length-same, shape-same}
use Rattle.board_layout.proofs.laws.Shapes.{known-exactly}
use Rattle.chain.specs.All.{All}
use Rattle.chain.proofs.laws.Nth.{all-of-nth}
use Rattle.kinds.specs.declared.Kind.TheVariants.{Tag}
use Rattle.kinds.specs.declared.Kinds.{Kinds}
use Rattle.octets.specs.Bytes.{byte}
use Rattle.promises.proofs.Given.{view}
use Rattle.promises.specs.Answers.{further_answers}
use Rattle.promises.specs.Complete.{NotShown, AgreeBut}
use Rattle.promises.specs.SameOutside.{InCheck, InsideUnknown, SameOutside}
use Rattle.reader.specs.Entries.{entry_at}
use Rattle.reader.specs.Formats.{judged, places}
use Rattle.reader.specs.Values.{ItemValues, tiny_fields, item_values}
use Rattle.reader.specs.declared.Format.{Format}
use Rattle.reader.specs.declared.Format.TheVariants.{Tiny, Board}
use Rattle.reader.specs.declared.Item.{Item}
use Rattle.tiny.specs.NotShown as tiny-shows
use Rattle.tiny.specs.Values as tiny-values
use Rattle.tiny.specs.Values.{name_said}
use Rattle.tiny.specs.AnswerTypes.{NameAnswer}
use Rattle.tiny.proofs.laws.Alike as tiny
use Rattle.tiny_layout.specs.Layout.{items}

-- ---- demand 3's premise: images that agree outside the data of unknown items and the check fields agree on what is shown
pub outside-shown : (f : Format) (k : Kinds) (s t : List ℕ) → SameOutside f k s t → AgreeBut f (NotShown f k s) s t
unfolding shape_at
outside-shown f k s t same = record { length = same.length; bytes = λ q h. go f q (same.bytes q h) }
  where
    -- an item whose kind and version the list lacks is one that it does not know
    unknown : (f : Format) (q : ℕ) → InsideUnknown f k s q → NotShown f k s q
    unknown Tiny q u = tiny-shows.unknown u
    unknown Board q u =
        board-shows.unknown (record {
          number = u.number;
          place = u.place;
          stands = u.stands;
          property = known-exactly k (signature_at s u.place) (major_at s u.place) ∙ u.property;
          past = u.past;
          before = u.before;
        })

    check : (f : Format) (q : ℕ) → InCheck f s q → NotShown f k s q
    check Tiny q h = tiny-shows.check h
    check Board q h = board-shows.check h

    go : (f : Format) (q : ℕ) → (byte s q ≡ byte t q) ⊎ (InCheck f s q ⊎ InsideUnknown f k s q) → (byte s q ≡ byte t q) ⊎ NotShown f k s q
    go f q (inl e) = inl e
    go f q (inr (inl h)) = inr (check f q h)
    go f q (inr (inr u)) = inr (unknown f q u)

-- ---- what is seen in both
pub record SeenAlike (f : Format) (k : Kinds) (s t : List ℕ) : Type 0 where
  pub places : places f s ≡ places f t
  pub items : All (λ p. (view f k s).item p ≡ (view f k t).item p) (view f k s).places
  pub entries : All (λ p. (view f k s).entry p ≡ (view f k t).entry p) (view f k s).places
  pub further : further_answers f k s ≡ further_answers f k t

module _ (k : Kinds) (s t : List ℕ) (c d : ℕ) (e : judged Tiny k s ≡ Ok c) (g : judged Tiny k t ≡ Ok d) (alike : tiny.Alike k s t) where
  tiny-seen : SeenAlike Tiny k s t
  unfolding entry_at
  tiny-seen =
      record {
        places = tiny.items-alike k s t c e alike;
        items = all-of-nth (λ p. (view Tiny k s).item p ≡ (view Tiny k t).item p) (items s) (λ i p at. ap shown (tiny.values-alike k s t c e alike i p at));
        entries =
            all-of-nth (λ p. entry_at Tiny k s p ≡ entry_at Tiny k t p) (items s)
            (λ i p at x. record {
              kind = tiny.tag-alike k s t c e alike i p at x;
              place = p;
              length = tiny.length-alike k s t c e alike i p at x;
              known = tiny.known-alike k s t c e alike i p at x;
            });
        further = λ x. record {
          string = λ n. tiny.string-answers k s t c d e g alike n x;
          name = λ b. let a : NameAnswer × List ℕ = tiny.name-answers k s t c d e g alike b x in (name_said a.0, a.1);
        };
      }
    where
      shown : tiny-values.ItemValues → ItemValues
      shown v = record { kind = Tag v.kind; place = v.place; length = v.length; fields = tiny_fields v.fields }

module _ (k : Kinds) (s t : List ℕ) (c d : ℕ) (e : judged Board k s ≡ Ok c) (g : judged Board k t ≡ Ok d) (alike : Alike k s t) where
  board-seen : SeenAlike Board k s t
  unfolding entry_at
  board-seen =
      record {
        places = board.structures-alike k s t c e alike;
        items = all-of-nth (λ p. (view Board k s).item p ≡ (view Board k t).item p) (structures s) (λ i p at. ap shown (board.item-alike k s t c e alike i p at));
        entries =
            all-of-nth (λ p. entry_at Board k s p ≡ entry_at Board k t p) (structures s)
            (λ i p at x.
            let head = head-alike k s t c e alike i p at in
            record {
              kind = signature-same s t p head x;
              place = p;
              length = length-same s t p head x - head_size;
              known = knows k (shape-same s t p head x);
            });
        further = λ x. record {
          map_record = λ n. map_record_said (board.map-answer-alike k s t c d e g alike n x);
          gpio_record = λ i n. gpio_record_said (board.gpio-answer-alike k s t c d e g alike i n x);
        };
      }
    where
      shown : board-shown.ShownItem → ItemValues
      shown v = item_values [] (Item.Board v)

pub seen-alike : (f : Format) (k : Kinds) (s t : List ℕ) (c d : ℕ) → judged f k s ≡ Ok c → judged f k t ≡ Ok d → AgreeBut f (NotShown f k s) s t
    → SeenAlike f k s t
seen-alike Tiny k s t c d e g same = tiny-seen k s t c d e g (record { length = same.length; bytes = same.bytes })
seen-alike Board k s t c d e g same = board-seen k s t c d e g (record { length = same.length; bytes = same.bytes })
