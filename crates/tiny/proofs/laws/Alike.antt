-- Two images of one length that differ in no byte that is shown: where the first is accepted, both have the same items and the same pool, and show the same
-- items, strings and name. So two accepted images have the same count and get the same answers. Each byte of a head and of a known item past its indexes is
-- shown, whatever item it might lie in; and an index that is not shown refers to nothing. Assumes nothing.
use Prim.Native.Nat.{ℕ, ◌+◌, ◌≤◌, ◌<◌}
use Rattle.std.specs.Prelude.{Bool, false, cond, ◌&&◌, List, ◌⊎◌, ◌≡◌, refl, eqb, length, Some, None, Ok}
use Rattle.std.proofs.Math.Bool.{true}
use Rattle.std.proofs.lemmas.Bool.{false≢true}
use Rattle.std.proofs.Common.{inl, inr, subst, ◌∙◌, arith}
use Rattle.std.proofs.Math.Path.{sym, ap}
use Rattle.chain.specs.All.{All}
use Rattle.chain.specs.Keep.{keep, only}
use Rattle.chain.specs.Nth.{nth}
use Rattle.chain.specs.Found.{Found}
use Rattle.chain.proofs.laws.All.{all-map}
use Rattle.chain.proofs.laws.Inside.{inside-own}
use Rattle.chain.proofs.laws.Keep.{keep-agree}
use Rattle.chain.proofs.laws.Nth.{nth-all, all-of-nth}
use Rattle.kinds.specs.Kinds.{listed}
use Rattle.kinds.specs.declared.Kind.TheVariants.{Tag}
use Rattle.kinds.specs.declared.Kinds.{Kinds}
use Rattle.octets.specs.Bytes.{byte}
use Rattle.octets.proofs.laws.Same.{Same}
use Rattle.tiny_layout.specs.Layout.{total, check_place, data_length, data_at, next, items}
use Rattle.tiny_layout.specs.Pool.{is_known, pool}
use Rattle.tiny_layout.specs.Strings.{reference}
use Rattle.tiny_layout.specs.Tags.{shape_of, index_count}
use Rattle.tiny_layout.specs.declared.Pool.{Pool}
use Rattle.tiny_layout.specs.Reference.{Reference}
use Rattle.tiny_layout.proofs.laws.Layout.{data-after, data-within, next-grows}
use Rattle.tiny_layout.proofs.laws.Pool.{pool-view, known-holds}
use Rattle.tiny_layout.proofs.laws.Same.{tag-same, length-same, data-same, next-same, items-agree, pool-agree, reference-same}
use Rattle.tiny_layout.proofs.laws.Tags.{fields-within, indexes-within}
use Rattle.tiny_rules.specs.Judged.{judged}
use Rattle.tiny_rules.proofs.laws.Accepted.{accepted-count, items-fit}
use Rattle.tiny.specs.Answers.{numbered, item_if, item_numbered, string_if, string_numbered, is_serial, serials, serial_of, copied, name_at, name_in, name_if, name_of}
use Rattle.tiny.specs.Items.{item_at}
use Rattle.tiny.specs.NotShown.{InsideUnknown, InIndex, NotShown, check, unknown, index}
use Rattle.tiny.specs.Values.{item_values, item_said, string_said}
use Rattle.tiny.specs.AnswerTypes.{StringAnswer}
use Rattle.tiny.specs.declared.ShownItem.{ShownItem}
use Rattle.tiny.proofs.laws.Agree.{SameText, said-same, copied-same, reference-text, index-same, item-same, item-values}
use Rattle.tiny.proofs.laws.Resolved.{reference-unlisted}
use Rattle.tiny.proofs.laws.Serials.{only-serial, serial-shown}
use Rattle.tiny.proofs.laws.Strings.{as_string, string-by-reference}
use Rattle.verdict.specs.Said.{says}

-- item i starts at p
abbrev pub Stands : List ℕ → ℕ → ℕ → Type 0
Stands s i p = nth (items s) i ≡ Some p

-- two images of one length that differ in no byte that is shown. "An image's length is L ..; what is lent past it may differ."
pub record Alike (k : Kinds) (s t : List ℕ) : Type 0 where
  pub length : total s ≡ total t
  pub bytes : (q : ℕ) → q < total s → (byte s q ≡ byte t q) ⊎ NotShown k s q

module _ (k : Kinds) (s t : List ℕ) (c : ℕ) (e : judged k s ≡ Ok c) (alike : Alike k s t) where
  -- ---- the bytes of an item
  -- it ends at the check byte or before it
  fit : (i p : ℕ) → Stands s i p → next s p ≤ check_place s
  fit i p at = (nth-all (λ q. (3 ≤ q) × (next s q ≤ check_place s)) (items s) i p (items-fit k s c e) at).1

  -- a byte of it that is not shown lies inside it, where it is not known, or is one of its index bytes
  abbrev Own : ℕ → ℕ → Type 0
  Own p q = ((is_known k s p ≡ false) × (data_at s p ≤ q))
      ⊎ ((listed k (Tag 0x01) ≡ false) × (is_known k s p ≡ true) × (data_at s p ≤ q) × (q < data_at s p + index_count (shape_of (byte s p))))

  own : (i p q : ℕ) → Stands s i p → p ≤ q → q < next s p → NotShown k s q → Own p q
  own i p q at a b (check h) = absurd (omega (arith, b, h, fit i p at))
  own i p q at a b (unknown u) =
      let z : u.place ≡ p = inside-own (next s) (check_place s) (next-grows s) 3 (λ p. is_known k s p ≡ false) (data_at s) (next s)
      (λ p. omega (arith, data-after s p)) (λ p. omega arith) i p q at a b u in
      subst (λ (x : ℕ). Own x q) z (inl (u.property, u.past))
  own i p q at a b (index off u) =
      let z : u.place ≡ p = inside-own (next s) (check_place s) (next-grows s) 3 (λ p. is_known k s p ≡ true) (data_at s)
      (λ p. data_at s p + index_count (shape_of (byte s p))) (λ p. omega (arith, data-after s p))
      (λ p. omega (arith, fields-within s p, indexes-within (shape_of (byte s p)))) i p q at a b u in
      subst (λ (x : ℕ). Own x q) z (inr (off, u.property, u.past, u.before))

  -- so a byte of it agrees, or is such a one
  outside : (i p q : ℕ) → Stands s i p → p ≤ q → q < next s p → (byte s q ≡ byte t q) ⊎ Own p q
  outside i p q at a b =
      elim (alike.bytes q (omega (arith, b, fit i p at))) [ inl d ↦ inl d | inr h ↦ inr (own i p q at a b h) ]

  -- the head agrees
  pub head-alike : (i p : ℕ) → Stands s i p → Same s t p (data_at s p)
  head-alike i p at q a b =
      elim (outside i p q at a (omega (arith, b, data-within s p))) [
        | inl d ↦ d
        | inr (inl h) ↦ absurd (omega (arith, b, h.1))
        | inr (inr h) ↦ absurd (omega (arith, b, h.2))
      ]

  -- and so do the data of a known item, past the indexes
  pub data-alike : (i p : ℕ) → Stands s i p → is_known k s p ≡ true → Same s t (data_at s p + index_count (shape_of (byte s p))) (next s p)
  data-alike i p at known q a b =
      elim (outside i p q at (omega (arith, a, data-after s p)) b) [
        | inl d ↦ d
        | inr (inl h) ↦ absurd (false≢true (sym h.0 ∙ known))
        | inr (inr h) ↦ absurd (omega (arith, a, h.3))
      ]

  -- ---- the same items, and the same pool
  heads : All (λ p. Same s t p (data_at s p)) (items s)
  heads = all-of-nth (λ p. Same s t p (data_at s p)) (items s) head-alike

  pub items-alike : items s ≡ items t
  items-alike = items-agree s t alike.length heads

  pub pool-alike : pool k s ≡ pool k t
  pool-alike = pool-agree s t alike.length heads k

  -- the pool is a known item, so its bytes agree
  pool-bytes : Same s t (pool k s).from (pool k s).to
  unfolding shape_of
  pool-bytes =
      pool-view k s (λ x. Same s t x.from x.to) (λ q a b. absurd (omega arith))
      (λ p f _ _ mark tag.
      let w = (known-holds k s 0x01 p Whole (all-of-nth Whole (items s) data-alike) f).2 (ap (λ (b : ℕ). listed k (Tag b)) tag ∙ mark) in
      λ q a b. w q (omega (arith, a, ap (λ (b : ℕ). index_count (shape_of b)) tag)) b)
    where
      Whole : ℕ → Type 0
      Whole q = is_known k s q ≡ true → Same s t (data_at s q + index_count (shape_of (byte s q))) (next s q)

  -- ---- at the place of an item
  pub tag-alike : (i p : ℕ) → Stands s i p → byte s p ≡ byte t p
  tag-alike i p at = tag-same s t p (head-alike i p at)

  pub length-alike : (i p : ℕ) → Stands s i p → data_length s p ≡ data_length t p
  length-alike i p at = length-same s t p (head-alike i p at)

  pub known-alike : (i p : ℕ) → Stands s i p → is_known k s p ≡ is_known k t p
  known-alike i p at = ap (λ (tag : ℕ). listed k (Tag tag)) (tag-alike i p at)

  -- an index byte that differs refers to nothing, in both: 01 is not on the list
  refers-alike : (i p q : ℕ) → Stands s i p → p ≤ q → q < next s p → is_known k s p ≡ true → reference s (pool k s) (byte s q) ≡ reference t (pool k s) (byte t q)
  refers-alike i p q at a b known =
      elim (outside i p q at a b) [
        | inl d ↦ index-same s t (pool k s) pool-bytes q d
        | inr (inl h) ↦ absurd (false≢true (sym h.0 ∙ known))
        | inr (inr h) ↦ reference-unlisted k s h.0 (byte s q) ∙ sym (ap (λ (x : Pool). reference t x (byte t q)) pool-alike ∙ reference-unlisted k t h.0 (byte t q))
      ]

  -- what is shown of it, texts as places
  pub item-alike : (i p : ℕ) → Stands s i p → item_at k s (pool k s) p ≡ item_at k t (pool k t) p
  item-alike i p at =
      item-same s t (pool k s) pool-bytes p (head-alike i p at) k
      (λ known. (
        λ q a b. refers-alike i p q at (omega (arith, a, data-after s p)) (omega (arith, b, fields-within s p, indexes-within (shape_of (byte s p)))) known,
        data-alike i p at known,
      ))
      ∙ ap (λ (x : Pool). item_at k t x p) pool-alike

  -- and texts as bytes
  pub values-alike : (i p : ℕ) → Stands s i p → item_values s (item_at k s (pool k s) p) ≡ item_values t (item_at k t (pool k t) p)
  values-alike i p at = item-values s t (pool k s) pool-bytes k p ∙ ap (item_values t) (item-alike i p at)

  -- ---- the item of a number: the answer, and its values
  -- what goes by the place found at a number is the same, if it is at each place
  by-number :
      {A : Type 0} (f g : Found → A) → ((i p : ℕ) → Stands s i p → f (Some p) ≡ g (Some p)) → f None ≡ g None
      → (n : ℕ) → f (nth (items s) n) ≡ g (nth (items t) n)
  by-number f g some none n = go (nth (items s) n) refl ∙ ap (λ (l : List ℕ). g (nth l n)) items-alike
    where
      go : (x : Found) → nth (items s) n ≡ x → f x ≡ g x
      go (Some p) d = some n p d
      go None d = none

  pub numbered-alike : (n : ℕ) → numbered k s (nth (items s) n) ≡ numbered k t (nth (items t) n)
  numbered-alike = by-number (numbered k s) (numbered k t) (λ i p at. ap Ok (item-alike i p at)) refl

  pub said-alike : (n : ℕ) → item_said s (numbered k s (nth (items s) n)) ≡ item_said t (numbered k t (nth (items t) n))
  said-alike = by-number (λ f. item_said s (numbered k s f)) (λ f. item_said t (numbered k t f)) (λ i p at. ap says (values-alike i p at)) refl

  -- ---- the string of a number: the answer, and its value
  pub looked-alike : (n : ℕ) → string_if k s n (Ok c) ≡ string_if k t n (Ok c)
  looked-alike n =
      string-by-reference k s n c
      ∙ ap (λ (r : Reference). cond (listed k (Tag 0x01)) (as_string r) (Ok None))
      (reference-same s t (pool k s) pool-bytes n ∙ ap (λ (x : Pool). reference t x n) pool-alike)
      ∙ sym (string-by-reference k t n c)

  pub string-alike : (n : ℕ) → string_said s (string_if k s n (Ok c)) ≡ string_said t (string_if k t n (Ok c))
  string-alike n =
      ap (string_said s) (string-by-reference k s n c) ∙ go (listed k (Tag 0x01)) ∙ ap (string_said t) (sym (string-by-reference k s n c) ∙ looked-alike n)
    where
      answer : Bool → StringAnswer
      answer b = cond b (as_string (reference s (pool k s) n)) (Ok None)

      go : (b : Bool) → string_said s (answer b) ≡ string_said t (answer b)
      go true = said-same s t (reference s (pool k s) n) (reference-text s t (pool k s) pool-bytes n)
      go false = refl

  -- ---- the name, and what the lent buffer then holds
  serials-alike : serials k s ≡ serials k t
  serials-alike =
      keep-agree (is_serial k s) (is_serial k t) (items s)
      (all-map (λ p. Same s t p (data_at s p)) (λ p. is_serial k s p ≡ is_serial k t p)
      (λ p head. ap (λ (tag : ℕ). listed k (Tag 0x10) && eqb tag 0x10) (tag-same s t p head)) (items s) heads)
      ∙ ap (keep (is_serial k t)) items-alike

  pub name-alike : (buffer : List ℕ) → name_in k s buffer ≡ name_in k t buffer
  name-alike buffer = go (only (serials k s)) refl ∙ ap (λ (l : List ℕ). name_at k t buffer (only l)) serials-alike
    where
      go : (f : Found) → only (serials k s) ≡ f → name_at k s buffer f ≡ name_at k t buffer f
      go (Some p) d =
          let h = only-serial k s p (λ q. item_at k s (pool k s) q ≡ item_at k t (pool k t) q)
          (all-of-nth (λ q. item_at k s (pool k s) q ≡ item_at k t (pool k t) q) (items s) item-alike) d in
          copied-same s t buffer (serial_of (item_at k s (pool k s) p).item)
          (subst (SameText s t) (sym (serial-shown k s p (pool k s) h.0 h.1)) (reference-text s t (pool k s) pool-bytes (byte s (data_at s p))))
          ∙ ap (λ (x : ShownItem). copied t buffer (serial_of x.item)) h.2
      go None d = refl

  -- ---- the other image is alike as well: the premise is worded by the first one's items
  pub alike-back : Alike k t s
  alike-back = record { length = sym alike.length; bytes = λ q h. go q (alike.bytes q (omega (arith, h, alike.length))) }
    where
      inside : (q : ℕ) → InsideUnknown k s q → InsideUnknown k t q
      inside q u =
          let head : Same s t u.place (data_at s u.place) = head-alike u.number u.place u.stands in
          record {
            number = u.number;
            place = u.place;
            stands = ap (λ (l : List ℕ). nth l u.number) (sym items-alike) ∙ u.stands;
            property = sym (known-alike u.number u.place u.stands) ∙ u.property;
            past = omega (arith, u.past, data-same s t u.place head);
            before = omega (arith, u.before, next-same s t u.place head);
          }

      indexed : (q : ℕ) → InIndex k s q → InIndex k t q
      indexed q u =
          let p : ℕ = u.place in
          let head : Same s t p (data_at s p) = head-alike u.number p u.stands in
          record {
            number = u.number;
            place = p;
            stands = ap (λ (l : List ℕ). nth l u.number) (sym items-alike) ∙ u.stands;
            property = sym (known-alike u.number p u.stands) ∙ u.property;
            past = omega (arith, u.past, data-same s t p head);
            before = omega (arith, u.before, data-same s t p head, ap (λ (b : ℕ). index_count (shape_of b)) (tag-same s t p head));
          }

      go : (q : ℕ) → (byte s q ≡ byte t q) ⊎ NotShown k s q → (byte t q ≡ byte s q) ⊎ NotShown k t q
      go q (inl d) = inl (sym d)
      go q (inr (check h)) = inr (check (omega (arith, h, alike.length)))
      go q (inr (unknown u)) = inr (unknown (inside q u))
      go q (inr (index off u)) = inr (index off (indexed q u))

-- ---- both are accepted: the same count, and the same answer to every question
module _ (k : Kinds) (s t : List ℕ) (c d : ℕ) (e : judged k s ≡ Ok c) (f : judged k t ≡ Ok d) (alike : Alike k s t) where
  pub count-alike : c ≡ d
  count-alike = sym (accepted-count k s c e) ∙ ap length (items-alike k s t c e alike) ∙ accepted-count k t d f

  pub item-answers : (n : ℕ) → item_said s (item_numbered k s n) ≡ item_said t (item_numbered k t n)
  unfolding item_numbered
  item-answers n =
      ap (λ j. item_said s (item_if k s n j)) e ∙ said-alike k s t c e alike n ∙ sym (ap (λ j. item_said t (item_if k t n j)) f)

  pub string-answers : (n : ℕ) → string_said s (string_numbered k s n) ≡ string_said t (string_numbered k t n)
  unfolding string_numbered
  string-answers n =
      ap (λ j. string_said s (string_if k s n j)) e ∙ string-alike k s t c e alike n ∙ sym (ap (λ j. string_said t (string_if k t n j)) f)

  pub name-answers : (buffer : List ℕ) → name_of k s buffer ≡ name_of k t buffer
  unfolding name_of
  name-answers buffer = ap (name_if k s buffer) e ∙ name-alike k s t c e alike buffer ∙ sym (ap (name_if k t buffer) f)
