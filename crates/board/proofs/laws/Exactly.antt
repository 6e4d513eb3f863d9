-- What is answered in an accepted image, and when: an item for every number below the count, and 42 for any other; a record of the map, or of an item that is
-- known GPIO data, for every number below the count of its records, and 42 for any other; and an item that is not known exactly where the list does not know
-- its structure. Assumes nothing.
use Rattle.std.specs.Prelude.{ℕ, ◌≤◌, ◌<◌, Bool, cond, ◌&&◌, List, ◌↔◌, ◌≡◌, length, get_or, Some, None, Ok}
use Rattle.std.proofs.Math.Bool.{true, false}
use Rattle.std.proofs.lemmas.Bool.{false≢true}
use Rattle.std.proofs.Math.Path.{refl, ap}
use Rattle.std.proofs.Common.{sym, subst, ◌∙◌, arith}
use Rattle.board.specs.Answers.{numbered, item_if, item_numbered, map_record, map_record_if, map_record_numbered, is_gpio, gpio_records_at, gpio_record, gpio_record_if, gpio_record_numbered}
use Rattle.board.specs.Items.{item_as, item_at}
use Rattle.board.specs.Shown.{structure_shown, record_shown}
use Rattle.board.specs.Values.{not_known, item_fields, ItemValues, item_values, item_said, map_record_said, gpio_record_said}
use Rattle.board.proofs.laws.Rows.{shown-unknown, structure-rows, map-record-rows, gpio-record-rows}
use Rattle.board_layout.specs.Layout.{shape_at, structures, map_at, records}
use Rattle.board_layout.specs.Shapes.{knows}
use Rattle.board_layout.specs.declared.Records.TheVariants.{Map, Gpio}
use Rattle.board_rules.specs.Judged.{judged}
use Rattle.board_rules.proofs.laws.Accepted.{accepted-count}
use Rattle.chain.specs.Nth.{nth}
use Rattle.chain.specs.Found.{Found}
use Rattle.chain.proofs.laws.Nth.{nth-below, nth-past}
use Rattle.kinds.specs.declared.Kinds.{Kinds}
use Rattle.octets.specs.Bytes.{Octets, run}
use Rattle.octets.proofs.laws.Spelled.{spelled-le64}
use Rattle.verdict.specs.Said.{says, refused}

module _ (k : Kinds) (s : List ℕ) (c : ℕ) (e : judged k s ≡ Ok c) where
  -- ---- item by number
  -- the answer, the verdict taken out
  item-accepted : (n : ℕ) → item_numbered k s n ≡ numbered k s (nth (structures s) n)
  unfolding item_numbered
  item-accepted n = ap (item_if k s n) e

  -- a number below the count shows the structure of that number
  pub item-answered : (n : ℕ) → n < c → item_said (item_numbered k s n) ≡ says (item_values (item_at k s (get_or (structures s) n 0)))
  item-answered n h =
      ap item_said (item-accepted n ∙ ap (numbered k s) (nth-below (structures s) n (omega (arith, accepted-count k s c e))))

  -- any other gets 42
  pub item-beyond : (n : ℕ) → c ≤ n → item_said (item_numbered k s n) ≡ refused 42 0
  item-beyond n h =
      ap item_said (item-accepted n ∙ ap (numbered k s) (nth-past (structures s) n (omega (arith, accepted-count k s c e))))

  -- what holds of the item at each place holds of an item that is shown
  pub item-view :
      (P : ItemValues → Type 0) (n : ℕ) → ((p : ℕ) → nth (structures s) n ≡ Some p → P (item_values (item_at k s p)))
      → (v : ItemValues) → item_said (item_numbered k s n) ≡ says v → P v
  item-view P n h v said = go (nth (structures s) n) refl (ap item_said (sym (item-accepted n)) ∙ said)
    where
      go : (f : Found) → nth (structures s) n ≡ f → item_said (numbered k s f) ≡ says v → P v
      go (Some p) d x = let z : item_values (item_at k s p) ≡ v = cc in subst P z (h p d)
      go None d x = let z : ◌≡◌ {A = ℕ} 0 1 = cc in absurd (omega arith)

  -- its kind is the eight signature bytes at its place
  pub item-kind : Octets s → (n : ℕ) (v : ItemValues) → item_said (item_numbered k s n) ≡ says v → v.kind ≡ run s v.place 8
  unfolding item_at
  item-kind h n = item-view (λ v. v.kind ≡ run s v.place 8) n (λ p d. spelled-le64 s p h)

  -- an item is not known exactly where the list does not know the structure at its place
  pub unknown-exactly : (n : ℕ) (v : ItemValues) → item_said (item_numbered k s n) ≡ says v → (v.shown ≡ not_known) ↔ (knows k (shape_at s v.place) ≡ false)
  unfolding item_at
  unknown-exactly n =
      item-view (λ v. (v.shown ≡ not_known) ↔ (knows k (shape_at s v.place) ≡ false)) n (λ p d. go p (knows k (shape_at s p)) refl)
    where
      go : (p : ℕ) (b : Bool) → knows k (shape_at s p) ≡ b → (item_fields (cond b (item_as s p (shape_at s p)) None) ≡ not_known) ↔ (b ≡ false)
      go p true on = (λ h. absurd (shown-unknown (structure_shown s p (shape_at s p)) (sym (structure-rows k s p (shape_at s p) on) ∙ h)), λ h. absurd (false≢true (sym h)))
      go p false off = (λ h. refl, λ h. refl)

  -- ---- record of the map by number
  map-accepted : (n : ℕ) → map_record_numbered k s n ≡ map_record s (nth (records Map s (map_at s)) n)
  unfolding map_record_numbered
  map-accepted n = ap (map_record_if s n) e

  -- a number below the count of its records shows that record, and any other gets 42
  pub map-record-answered :
      (n : ℕ) → n < length (records Map s (map_at s))
      → map_record_said (map_record_numbered k s n) ≡ says (record_shown Map s (get_or (records Map s (map_at s)) n 0))
  map-record-answered n h =
      ap map_record_said (map-accepted n ∙ ap (map_record s) (nth-below (records Map s (map_at s)) n h)) ∙ ap says (map-record-rows s _)

  pub map-record-beyond : (n : ℕ) → length (records Map s (map_at s)) ≤ n → map_record_said (map_record_numbered k s n) ≡ refused 42 0
  map-record-beyond n h = ap map_record_said (map-accepted n ∙ ap (map_record s) (nth-past (records Map s (map_at s)) n h))

  -- ---- record of GPIO data by number
  gpio-accepted : (i n : ℕ) → gpio_record_numbered k s i n ≡ gpio_record s (gpio_records_at k s n (nth (structures s) i))
  unfolding gpio_record_numbered
  gpio-accepted i n = ap (gpio_record_if k s i n) e

  -- no item i, no record
  pub gpio-item-beyond : (i n : ℕ) → c ≤ i → gpio_record_said (gpio_record_numbered k s i n) ≡ refused 42 0
  gpio-item-beyond i n h =
      ap gpio_record_said
      (gpio-accepted i n ∙ ap (λ (f : Found). gpio_record s (gpio_records_at k s n f)) (nth-past (structures s) i (omega (arith, accepted-count k s c e))))

  -- item i, at place p
  module _ (i p : ℕ) (at : nth (structures s) i ≡ Some p) where
    -- by whether it is known GPIO data
    pub gpio-by :
        (b : Bool) → is_gpio (shape_at s p) && knows k (shape_at s p) ≡ b → (n : ℕ)
        → gpio_record_numbered k s i n ≡ gpio_record s (cond b (nth (records Gpio s p) n) None)
    gpio-by b d n =
        gpio-accepted i n ∙ ap (λ (f : Found). gpio_record s (gpio_records_at k s n f)) at
        ∙ ap (λ (x : Bool). gpio_record s (cond x (nth (records Gpio s p) n) None)) d

    -- any other item has no records
    pub gpio-none : is_gpio (shape_at s p) && knows k (shape_at s p) ≡ false → (n : ℕ) → gpio_record_said (gpio_record_numbered k s i n) ≡ refused 42 0
    gpio-none off n = ap gpio_record_said (gpio-by false off n)

    -- known GPIO data has its own, and no other
    module _ (on : is_gpio (shape_at s p) && knows k (shape_at s p) ≡ true) where
      pub gpio-record-answered :
          (n : ℕ) → n < length (records Gpio s p) → gpio_record_said (gpio_record_numbered k s i n) ≡ says (record_shown Gpio s (get_or (records Gpio s p) n 0))
      gpio-record-answered n h =
          ap gpio_record_said (gpio-by true on n ∙ ap (gpio_record s) (nth-below (records Gpio s p) n h)) ∙ ap says (gpio-record-rows s _)

      pub gpio-record-beyond : (n : ℕ) → length (records Gpio s p) ≤ n → gpio_record_said (gpio_record_numbered k s i n) ≡ refused 42 0
      gpio-record-beyond n h = ap gpio_record_said (gpio-by true on n ∙ ap (gpio_record s) (nth-past (records Gpio s p) n h))
