-- Two images of one length that differ in no byte that is shown: where the first is accepted, both have the same structures, and show the same items, map records
-- and GPIO records. So two accepted images have the same count and get the same answers. Assumes nothing.
use Rattle.std.specs.Prelude.{ℕ, ◌+◌, ◌≤◌, Bool, false, cond, ◌&&◌, List, ◌⊎◌, ◌≡◌, refl, length, Some, None, Ok}
use Rattle.std.proofs.Math.Bool.{true, and-eq-true_iff}
use Rattle.std.proofs.lemmas.Bool.{false≢true}
use Rattle.std.proofs.Common.{inl, inr, ap₂, ◌∙◌, arith}
use Rattle.std.proofs.Math.Path.{sym, ap, subst}
use Rattle.board.specs.Answers.{numbered, item_if, item_numbered, map_record, map_record_if, map_record_numbered, is_gpio, gpio_records_at, gpio_record, gpio_record_if, gpio_record_numbered}
use Rattle.board.specs.Items.{item_as, item_at}
use Rattle.board.proofs.laws.Shown.{header-same, fields-same, item-same, map-record-at-same, gpio-record-at-same}
use Rattle.board_layout.specs.Layout.{shape_at, end_at, structures, map_at, record_size, data_offset, records}
use Rattle.board_layout.specs.Places.{head_size, MapData, map_record_size}
use Rattle.board_layout.specs.Shapes.{shape_of, knows, reserved_from}
use Rattle.board_layout.specs.declared.Records.TheVariants.{Map, Gpio}
use Rattle.board_layout.specs.declared.Shape.{Shape}
use Rattle.board_layout.specs.declared.Shape.TheVariants.{Eeprom}
use Rattle.board_layout.proofs.laws.Same.{shape-same, next-same, records-same, structures-agree}
use Rattle.board_records.specs.Records.{record_from}
use Rattle.board_rules.specs.Judged.{judged}
use Rattle.board_rules.proofs.laws.Accepted.{accepted-count, header-is, records-fit}
use Rattle.board_rules.proofs.laws.Tables.{Whole, gpio-whole}
use Rattle.chain.specs.Nth.{nth}
use Rattle.chain.specs.Found.{Found}
use Rattle.chain.proofs.laws.Nth.{nth-all, all-of-nth}
use Rattle.kinds.specs.declared.Kinds.{Kinds}
use Rattle.octets.proofs.laws.Same.{Same}
use Rattle.board.proofs.laws.AlikeBytes.{Alike, Stands, gpio-shape, map-shape, header-stands, map-stands, map-far, starts, head-alike, outside-check, fields-alike, record-alike}

module _ (k : Kinds) (s t : List ℕ) (c : ℕ) (e : judged k s ≡ Ok c) (alike : Alike k s t) where
  -- ---- the same structures, and the same items
  pub structures-alike : structures s ≡ structures t
  structures-alike =
      structures-agree s t alike.length (all-of-nth (λ p. Same s t p (p + head_size)) (structures s) (head-alike k s t c e alike))

  header-shape : shape_at s 0 ≡ Eeprom
  unfolding shape_at shape_of
  header-shape = rw (header-is k s c e).0

  -- the header's fields: those before Crc32, and those after it
  header-alike : item_as s 0 Eeprom ≡ item_as t 0 Eeprom
  unfolding end_at
  header-alike =
      let known : knows k (shape_at s 0) ≡ true = ap (knows k) header-shape in
      let h : reserved_from (shape_at s 0) ≡ 0x20 = ap reserved_from header-shape in
      header-same s t 0 (head-alike k s t c e alike 0 0 (header-stands k s t c e alike))
      (λ q a b. outside-check k s t c e alike 0 0 (header-stands k s t c e alike) known q a (omega arith) (λ x. omega (arith, b, x.0)))
      (λ q a b. outside-check k s t c e alike 0 0 (header-stands k s t c e alike) known q (omega arith) (omega arith) (λ x. omega (arith, a, x.1)))

  -- the item at each place
  pub item-alike : (i p : ℕ) → Stands s i p → item_at k s p ≡ item_at k t p
  unfolding end_at
  item-alike i p at = item-same s t p (head-alike k s t c e alike i p at) k (λ known. go known (starts k s t c e alike i p at))
    where
      go : knows k (shape_at s p) ≡ true → (p ≡ 0) ⊎ (0x20 ≤ p) → item_as s p (shape_at s p) ≡ item_as t p (shape_at s p)
      go known (inl z) =
          subst (λ (x : ℕ). item_as s x (shape_at s x) ≡ item_as t x (shape_at s x)) (sym z)
          (subst (λ (a : Shape). item_as s 0 a ≡ item_as t 0 a) (sym header-shape) header-alike)
      go known (inr far) =
          fields-same s t p (head-alike k s t c e alike i p at) (p + reserved_from (shape_at s p)) (fields-alike k s t c e alike i p at far known) (shape_at s p) (omega arith)

  -- and so the item of each number
  pub numbered-alike : (n : ℕ) → numbered k s (nth (structures s) n) ≡ numbered k t (nth (structures t) n)
  numbered-alike n = go (nth (structures s) n) refl ∙ ap (λ (l : List ℕ). numbered k t (nth l n)) structures-alike
    where
      go : (f : Found) → nth (structures s) n ≡ f → numbered k s f ≡ numbered k t f
      go (Some p) d = ap Ok (item-alike n p d)
      go None d = refl

  -- ---- the same map records
  -- the map is known to every list, and lies at one place in both
  map-known : knows k (shape_at s (map_at s)) ≡ true
  map-known = ap (knows k) (map-shape k s c e)

  map-place-alike : map_at s ≡ map_at t
  unfolding map_at
  map-place-alike = next-same s t 0 (head-alike k s t c e alike 0 0 (header-stands k s t c e alike))

  pub map-record-alike : (n : ℕ) → map_record s (nth (records Map s (map_at s)) n) ≡ map_record t (nth (records Map t (map_at t)) n)
  map-record-alike n =
      go (nth (records Map s (map_at s)) n) refl
      ∙ ap (λ (l : List ℕ). map_record t (nth l n))
      (records-same s t (map_at s) (head-alike k s t c e alike 1 (map_at s) (map-stands k s t c e alike)) Map ∙ ap (records Map t) map-place-alike)
    where
      go : (f : Found) → nth (records Map s (map_at s)) n ≡ f → map_record s f ≡ map_record t f
      go (Some r) d =
          let w = nth-all (λ x. (map_at s + MapData ≤ x) × (x + map_record_size ≤ end_at s (map_at s))) (records Map s (map_at s)) n r (records-fit k s c e) d in
          ap Ok
          (map-record-at-same s t r (r + record_from Map)
          (record-alike k s t c e alike Map 1 (map_at s) (map-stands k s t c e alike) (map-far k s t c e alike) map-known (map-shape k s c e) n r d (omega (arith, w.1))) r (omega arith) (omega arith))
      go None d = refl

  -- ---- the same GPIO records
  -- GPIO data lie past k s t c e alike the header
  gpio-far : (i p : ℕ) → Stands s i p → is_gpio (shape_at s p) ≡ true → 0x20 ≤ p
  gpio-far i p at g = go (starts k s t c e alike i p at)
    where
      go : (p ≡ 0) ⊎ (0x20 ≤ p) → 0x20 ≤ p
      go (inl z) = absurd (false≢true (ap is_gpio (sym header-shape) ∙ ap (λ (x : ℕ). is_gpio (shape_at s x)) (sym z) ∙ g))
      go (inr h) = h

  -- the records of the structure at p
  gpio-at : (n i p : ℕ) → Stands s i p → gpio_record s (gpio_records_at k s n (Some p)) ≡ gpio_record t (gpio_records_at k t n (Some p))
  gpio-at n i p at =
      go (is_gpio (shape_at s p) && knows k (shape_at s p)) refl
      ∙ ap₂ (λ (a : Shape) (l : List ℕ). gpio_record t (cond (is_gpio a && knows k a) (nth l n) None)) (shape-same s t p (head-alike k s t c e alike i p at))
      (records-same s t p (head-alike k s t c e alike i p at) Gpio)
    where
      shown : is_gpio (shape_at s p) ≡ true → knows k (shape_at s p) ≡ true → (f : Found) → nth (records Gpio s p) n ≡ f → gpio_record s f ≡ gpio_record t f
      shown g known (Some r) d =
          let w = nth-all (λ x. (p + data_offset Gpio ≤ x) × (x + record_size Gpio ≤ end_at s p)) (records Gpio s p) n r
          (nth-all (Whole k s) (structures s) i p (gpio-whole k s c e) at known (gpio-shape (shape_at s p) g)) d in
          ap Ok
          (gpio-record-at-same s t r (r + record_from Gpio)
          (record-alike k s t c e alike Gpio i p at (gpio-far i p at g) known (gpio-shape (shape_at s p) g) n r d (omega (arith, w.1))) r (omega arith) (omega arith))
      shown g known None d = refl

      go : (b : Bool) → is_gpio (shape_at s p) && knows k (shape_at s p) ≡ b
          → gpio_record s (cond b (nth (records Gpio s p) n) None) ≡ gpio_record t (cond b (nth (records Gpio s p) n) None)
      go true d =
          let w = (and-eq-true_iff (is_gpio (shape_at s p)) (knows k (shape_at s p))).0 d in shown w.0 w.1 (nth (records Gpio s p) n) refl
      go false d = refl

  pub gpio-record-alike : (i n : ℕ) → gpio_record s (gpio_records_at k s n (nth (structures s) i)) ≡ gpio_record t (gpio_records_at k t n (nth (structures t) i))
  gpio-record-alike i n =
      go (nth (structures s) i) refl ∙ ap (λ (l : List ℕ). gpio_record t (gpio_records_at k t n (nth l i))) structures-alike
    where
      go : (f : Found) → nth (structures s) i ≡ f → gpio_record s (gpio_records_at k s n f) ≡ gpio_record t (gpio_records_at k t n f)
      go (Some p) d = gpio-at n i p d
      go None d = refl

-- ---- both are accepted: the same count, and the same answer for every number
module _ (k : Kinds) (s t : List ℕ) (c d : ℕ) (e : judged k s ≡ Ok c) (f : judged k t ≡ Ok d) (alike : Alike k s t) where
  pub count-alike : c ≡ d
  count-alike = sym (accepted-count k s c e) ∙ ap length (structures-alike k s t c e alike) ∙ accepted-count k t d f

  pub item-answer-alike : (n : ℕ) → item_numbered k s n ≡ item_numbered k t n
  unfolding item_numbered
  item-answer-alike n = ap (item_if k s n) e ∙ numbered-alike k s t c e alike n ∙ sym (ap (item_if k t n) f)

  pub map-answer-alike : (n : ℕ) → map_record_numbered k s n ≡ map_record_numbered k t n
  unfolding map_record_numbered
  map-answer-alike n = ap (map_record_if s n) e ∙ map-record-alike k s t c e alike n ∙ sym (ap (map_record_if t n) f)

  pub gpio-answer-alike : (i n : ℕ) → gpio_record_numbered k s i n ≡ gpio_record_numbered k t i n
  unfolding gpio_record_numbered
  gpio-answer-alike i n = ap (gpio_record_if k s i n) e ∙ gpio-record-alike k s t c e alike i n ∙ sym (ap (gpio_record_if k t i n) f)
