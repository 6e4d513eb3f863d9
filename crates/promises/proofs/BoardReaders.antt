-- Two readers of one board image: at each place the shorter shows what the longer shows, hidden; the same records of the map; and records of GPIO data where
-- its list has their kind. A structure of a listed kind and another version the longer does not know either. Assumes nothing.
use Rattle.std.specs.Prelude.{Some, None, Ok}
use Prim.Native.Nat.{ℕ}
use mathlib.Core.Bool.{Bool, true, false, cond, ◌&&◌, ◌||◌}
use mathlib.Core.List.{List}
use mathlib.Core.Path.{◌≡◌, refl, sym, ap, ◌∙◌}
use lib.Dec.{eqb}
use Rattle.board.specs.Answers.{map_record_if, map_record_numbered, is_gpio, gpio_record, gpio_records_at, gpio_record_if, gpio_record_numbered}
use Rattle.board.specs.Items as board
use Rattle.board.specs.Items.{item_as}
use Rattle.board.specs.Values.{item_fields, gpio_record_said}
use Rattle.board.specs.AnswerTypes.{Item}
use Rattle.board_layout.specs.Layout.{signature_at, major_at, shape_at, structures, records}
use Rattle.board_layout.specs.Shapes.{knows, on_every_list}
use Rattle.board_layout.specs.declared.Records.TheVariants.{Gpio}
use Rattle.board_layout.proofs.laws.Shapes.{known-exactly}
use Rattle.board_rules.specs.Judged.{judged}
use Rattle.chain.specs.Nth.{nth}
use Rattle.chain.specs.Found.{Found}
use Rattle.kinds.specs.Kinds.{listed, Contains}
use Rattle.kinds.specs.declared.Kind.TheVariants.{Signature}
use Rattle.kinds.specs.declared.Kinds.{Kinds}
use Rattle.octets.specs.Rows.{Field}
use Rattle.promises.proofs.Given.{view}
use Rattle.promises.proofs.View.{item_from, at-number}
use Rattle.promises.specs.Hidden.{has, hide_fields, hide_item, hide_entry, hide_record}
use Rattle.reader.specs.Entries.{entry_at}
use Rattle.reader.specs.Items.{pool_of, item_at}
use Rattle.reader.specs.Values as reader
use Rattle.reader.specs.Values.{board_fields, item_values}
use Rattle.reader.specs.declared.Format.TheVariants.{Board}
use Rattle.verdict.specs.Said.{Said, refused}
use Rattle.verdict.specs.Answers.{Judged}

-- a structure that is one of the four, or listed and of VerMajor 1, by what the longer list says of it
mark-hides : (always short long one : Bool) → (short ≡ true → long ≡ true) → (always || (short && one)) ≡ cond (always || short) (always || (long && one)) false
mark-hides true short long one h = refl
mark-hides false true long one h = ap (λ (b : Bool). b && one) (sym (h refl))
mark-hides false false long one h = refl

-- structures show no strings
board-hides : (k : Kinds) (x : Item) → hide_fields k (board_fields (item_fields x)) ≡ board_fields (item_fields x)
board-hides k (Some x) = refl
board-hides k None = refl

module _ (longer shorter : Kinds) (contains : Contains longer shorter) (s : List ℕ) where
  -- the shorter knows a structure where its list has the kind and the longer knows it
  knows-hidden : (p : ℕ) → knows shorter (shape_at s p) ≡ cond (has shorter (Signature (signature_at s p))) (knows longer (shape_at s p)) false
  unfolding shape_at
  knows-hidden p =
      let g : ℕ = signature_at s p in
      let m : ℕ = major_at s p in
      known-exactly shorter g m
      ∙ mark-hides (on_every_list g) (listed shorter (Signature g)) (listed longer (Signature g)) (eqb m 1) (contains.keeps (Signature g))
      ∙ ap (λ (b : Bool). cond (has shorter (Signature g)) b false) (sym (known-exactly longer g m))

  -- ---- at a place
  pub board-item-hidden : (p : ℕ) → item_values s (item_at Board shorter s (pool_of Board shorter s) p) ≡ hide_item shorter (item_values s (item_at Board longer s (pool_of Board longer s) p))
  unfolding board.item_at
  board-item-hidden p i =
      record {
        kind = Signature (signature_at s p);
        place = p;
        length = (board.item_at longer s p).length;
        fields =
            (ap (λ (b : Bool). board_fields (item_fields (cond b (item_as s p (shape_at s p)) None))) (knows-hidden p)
            ∙ go (has shorter (Signature (signature_at s p))) (knows longer (shape_at s p))) i;
      }
    where
      go : (h b : Bool) → board_fields (item_fields (cond (cond h b false) (item_as s p (shape_at s p)) None))
          ≡ cond h (hide_fields shorter (board_fields (item_fields (cond b (item_as s p (shape_at s p)) None)))) reader.not_known
      go true b = sym (board-hides shorter (cond b (item_as s p (shape_at s p)) None))
      go false b = refl

  pub board-entry-hidden : (p : ℕ) → entry_at Board shorter s p ≡ hide_entry Board shorter (entry_at Board longer s p)
  unfolding entry_at
  board-entry-hidden p i =
      record {
        kind = signature_at s p;
        place = p;
        length = (entry_at Board longer s p).length;
        known = knows-hidden p i;
      }

  -- ---- where both accept: a record of the map, and one of GPIO data by what the longer shows of its item
  module _ (c : ℕ) (e : judged longer s ≡ Ok c) (d : judged shorter s ≡ Ok c) where
    pub map-hidden : (n : ℕ) → map_record_numbered shorter s n ≡ map_record_numbered longer s n
    unfolding map_record_numbered
    map-hidden n = ap (map_record_if s n) d ∙ sym (ap (map_record_if s n) e)

    pub gpio-hidden : (i n : ℕ)
        → gpio_record_said (gpio_record_numbered shorter s i n)
        ≡ hide_record shorter (item_from (view Board longer s) (nth (structures s) i)) (gpio_record_said (gpio_record_numbered longer s i n))
    unfolding gpio_record_numbered board.item_at
    gpio-hidden i n =
        ap (λ (j : Judged). gpio_record_said (gpio_record_if shorter s i n j)) d
        ∙ at-number (structures s) i
        (λ f. said shorter f ≡ hide_record shorter (item_from (view Board longer s) f) (said longer f))
        (λ p at.
        ap (λ (b : Bool). record_by p (is_gpio (shape_at s p) && b)) (knows-hidden p)
        ∙ go p (is_gpio (shape_at s p)) (has shorter (Signature (signature_at s p))) (knows longer (shape_at s p)))
        refl
        ∙ ap (λ (j : Judged). hide_record shorter (item_from (view Board longer s) (nth (structures s) i)) (gpio_record_said (gpio_record_if longer s i n j))) (sym e)
      where
        said : Kinds → Found → Said (List Field)
        said k f = gpio_record_said (gpio_record s (gpio_records_at k s n f))

        record_by : ℕ → Bool → Said (List Field)
        record_by p b = gpio_record_said (gpio_record s (cond b (nth (records Gpio s p) n) None))

        go : (p : ℕ) (a h b : Bool) → record_by p (a && cond h b false) ≡ cond h (record_by p (a && b)) (refused 42 0)
        go p a true b = refl
        go p true false b = refl
        go p false false b = refl
