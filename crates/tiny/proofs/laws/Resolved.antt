-- References in an accepted image. The string of a number is the text of that number in the pool. Where 01 is on the list, each reference inside a shown
-- item is the text whose number its index byte holds (rule 10: there is one), a lookup gives the text or 42, and the name is the text of the only
-- serial, or 43 where the buffer has no room for it; where 01 is not on the list, every reference and every string looked up is undecodable.
-- Assumes nothing.
use Rattle.std.specs.Prelude.{ℕ, ◌+◌, ◌≤◌, ◌<◌, Bool, ◌≡◌, Some, None, Ok, Err}
use Rattle.std.proofs.Math.Bool.{true, false, cond}
use mathlib.Core.List.{List, [], ◌++◌}
use Rattle.std.proofs.Math.Path.{refl, sym, ap, subst}
use Rattle.std.proofs.Common.{◌∙◌, arith, le-leb}
use Rattle.std.proofs.Math.Dec.{leb}
use Rattle.std.proofs.Math.ListN.{length, get_or, drop}
use Rattle.std.proofs.lemmas.Bool.{lt-leb}
use Rattle.chain.specs.All.{All}
use Rattle.chain.specs.Chain.{visit, chain}
use Rattle.chain.specs.Keep.{only}
use Rattle.chain.specs.Nth.{nth}
use Rattle.chain.specs.Found.{Found}
use Rattle.chain.proofs.laws.All.{all-of, all-map, map-get_or}
use Rattle.chain.proofs.laws.Fill.{length-tab}
use Rattle.chain.proofs.laws.Nth.{nth-below, nth-past, nth-all}
use Rattle.kinds.specs.Kinds.{listed}
use Rattle.kinds.specs.declared.Kind.TheVariants.{Tag}
use Rattle.kinds.specs.declared.Kinds.{Kinds}
use Rattle.octets.specs.Bytes.{byte}
use Rattle.octets.specs.declared.Span.{Span}
use Rattle.tiny_layout.specs.Layout.{data_at, items}
use Rattle.tiny_layout.specs.Pool.{pool}
use Rattle.tiny_layout.specs.Strings.{letter, texts, strings, span_at, text_of, reference_at, reference}
use Rattle.tiny_layout.specs.Tags.{shape_of, index_count}
use Rattle.tiny_layout.specs.declared.Pool.{Pool}
use Rattle.tiny_layout.specs.declared.Shape.{Shape}
use Rattle.tiny_layout.proofs.laws.Pool.{no-pool}
use Rattle.tiny_layout.proofs.laws.Texts.{text_at, texts-placed, texts-count}
use Rattle.tiny_rules.specs.Judged.{judged}
use Rattle.tiny_rules.proofs.laws.Accepted.{indexes-resolve}
use Rattle.tiny.specs.Answers.{refused_with, numbered, item_if, item_numbered, string_if, string_numbered, serials, serial_of, copied, name_at, name_if, name_of}
use Rattle.tiny.specs.Items.{identity_at, batched_at, fields_at, item_at}
use Rattle.tiny.specs.Texts.{EachIndexed}
use Rattle.tiny.specs.Values.{ReferenceValue, text, undecodable, FieldValues, ItemValues, reference_value, field_values, item_values, item_said, string_said}
use Rattle.tiny.specs.declared.Item.{Item}
use Rattle.tiny.proofs.laws.Serials.{only-serial, serial-shown}
use Rattle.tiny.proofs.laws.Strings.{as_string, string-by-reference}
use Rattle.verdict.specs.Said.{says, refused}

-- ---- a reference is the text of its number
-- string n of a pool: a span, whose text is the n-th of the pool's texts
pub record Resolved (s : List ℕ) (x : Pool) (n : ℕ) : Type 0 where
  pub span : Span
  pub found : reference s x n ≡ Some span
  pub spells : text_of s span ≡ get_or (texts s x) n []

module _ (s : List ℕ) (x : Pool) (n : ℕ) where
  -- a number below the string count is resolved
  pub reference-text : n < length (texts s x) → Resolved s x n
  unfolding reference
  reference-text h =
      let l : n < length (strings s x) = omega (arith, texts-count s x) in
      record {
        span = span_at s x.to (get_or (strings s x) n 0);
        found = ap (reference_at s x) (nth-below (strings s x) n l);
        spells =
            sym (ap (λ (ts : List (List ℕ)). get_or ts n []) (texts-placed s x) ∙ map-get_or (text_at s x.to) (strings s x) n 0 [] l);
      }

  -- any other is undecodable
  pub reference-past : length (texts s x) ≤ n → reference s x n ≡ None
  unfolding reference
  reference-past h = ap (reference_at s x) (nth-past (strings s x) n (omega (arith, texts-count s x)))

  -- the value of a resolved reference
  pub value-text : n < length (texts s x) → reference_value s (reference s x n) ≡ text (get_or (texts s x) n [])
  value-text h = let r = reference-text h in ap (reference_value s) r.found ∙ ap text r.spells

-- without 01 on the list every reference is undecodable
pub reference-unlisted : (k : Kinds) (s : List ℕ) → listed k (Tag 0x01) ≡ false → (n : ℕ) → reference s (pool k s) n ≡ None
unfolding reference nth chain visit
reference-unlisted k s off n = ap (λ (x : Pool). reference s x n) (no-pool k s off)

-- a text is not undecodable
text-decodable : (t : List ℕ) → text t ≡ undecodable → ⊥
text-decodable t e = let z : ◌≡◌ {A = ℕ} 0 1 = cc in omega arith

-- ---- the references of an item's fields
abbrev pub EachReference : (ReferenceValue → Type 0) → FieldValues → Type 0
EachReference P = EachIndexed (λ i. P)

-- a claim that follows from another at each reference
pub each-map :
    (P Q : ℕ → ReferenceValue → Type 0) → ((i : ℕ) (r : ReferenceValue) → P i r → Q i r)
    → (v : FieldValues) → EachIndexed P v → EachIndexed Q v
each-map P Q f (FieldValues.pool n p l) h = tt
each-map P Q f (FieldValues.serial r) h = f 0 r h
each-map P Q f (FieldValues.flags b) h = tt
each-map P Q f (FieldValues.address bytes) h = tt
each-map P Q f (FieldValues.identity x) h = (f 0 x.serial h.0, f 1 x.part h.1)
each-map P Q f (FieldValues.batched x b) h = (f 0 x.serial h.0, f 1 x.part h.1)
each-map P Q f FieldValues.not_known h = tt

-- what holds of the reference at each index byte of the item at p holds of each reference of its fields
pub fields-each :
    (s : List ℕ) (x : Pool) (P : ℕ → ReferenceValue → Type 0) (p : ℕ) (a : Shape)
    → ((i : ℕ) → i < index_count a → P i (reference_value s (reference s x (byte s (data_at s p + i)))))
    → EachIndexed P (field_values s (fields_at s x a p))
unfolding identity_at batched_at
fields-each s x P p a h = go a h
  where
    first : P 0 (reference_value s (reference s x (byte s (data_at s p + 0)))) → P 0 (reference_value s (reference s x (byte s (data_at s p))))
    first = subst (λ (q : ℕ). P 0 (reference_value s (reference s x (byte s q)))) (omega arith)

    go : (a : Shape) → ((i : ℕ) → i < index_count a → P i (reference_value s (reference s x (byte s (data_at s p + i))))) → EachIndexed P (field_values s (fields_at s x a p))
    go Shape.Pool h = tt
    go Shape.Serial h = first (h 0 (omega arith))
    go Shape.Flags h = tt
    go Shape.Address h = tt
    go Shape.Identity h = (first (h 0 (omega arith)), h 1 (omega arith))
    go Shape.Batched h = (first (h 0 (omega arith)), h 1 (omega arith))
    go Shape.Other h = tt

-- what is said is one value
said-value : (a b : ItemValues) → says a ≡ says b → a ≡ b
said-value a b e = cc

refused-unsaid : (n p : ℕ) (a : ItemValues) → refused n p ≡ says a → ⊥
refused-unsaid n p a e = let z : ◌≡◌ {A = ℕ} 0 1 = cc in omega arith

module _ (k : Kinds) (s : List ℕ) (c : ℕ) (e : judged k s ≡ Ok c) where
  -- the indexes of a known item at p are below the string count
  abbrev IndexesBelow : ℕ → Type 0
  IndexesBelow p =
      listed k (Tag (byte s p)) ≡ true → (i : ℕ) → i < index_count (shape_of (byte s p)) → byte s (data_at s p + i) < length (texts s (pool k s))

  -- ---- item by number
  -- a claim about each reference of a known item at p, by place and number of the index byte
  abbrev Claimed : (ℕ → ℕ → ReferenceValue → Type 0) → ℕ → Type 0
  Claimed P p =
      listed k (Tag (byte s p)) ≡ true → (i : ℕ) → i < index_count (shape_of (byte s p)) → P p i (reference_value s (reference s (pool k s) (byte s (data_at s p + i))))

  -- a claim about values, shown of the item at the place of number n, holds of what is said of number n
  pub item-view :
      (P : ItemValues → Type 0) (n : ℕ) → ((p : ℕ) → nth (items s) n ≡ Some p → P (item_values s (item_at k s (pool k s) p)))
      → (v : ItemValues) → item_said s (item_numbered k s n) ≡ says v → P v
  unfolding item_numbered
  item-view P n h v said = go (nth (items s) n) refl (ap (λ j. item_said s (item_if k s n j)) (sym e) ∙ said)
    where
      go : (f : Found) → nth (items s) n ≡ f → item_said s (numbered k s f) ≡ says v → P v
      go (Some p) d t = subst P (said-value (item_values s (item_at k s (pool k s) p)) v t) (h p d)
      go None d t = absurd (refused-unsaid 42 0 v t)

  -- what holds of the references of each known item holds of those of each item that is shown
  item-each :
      (P : ℕ → ℕ → ReferenceValue → Type 0) → All (Claimed P) (items s)
      → (n : ℕ) (v : ItemValues) → item_said s (item_numbered k s n) ≡ says v → EachIndexed (P v.place) v.fields
  unfolding item_at
  item-each P all n =
      item-view (λ w. EachIndexed (P w.place) w.fields) n (λ p d. shown p (listed k (Tag (byte s p))) refl d)
    where
      shown : (p : ℕ) (b : Bool) → listed k (Tag (byte s p)) ≡ b → nth (items s) n ≡ Some p
          → EachIndexed (P p) (field_values s (cond b (fields_at s (pool k s) (shape_of (byte s p)) p) Item.NotKnown))
      shown p true l d =
          fields-each s (pool k s) (P p) p (shape_of (byte s p))
          (nth-all (Claimed P) (items s) n p all d l)
      shown p false l d = tt

  -- with 01 on the list, each reference is the text whose number its index byte holds
  pub item-text :
      listed k (Tag 0x01) ≡ true → (n : ℕ) (v : ItemValues) → item_said s (item_numbered k s n) ≡ says v
      → EachIndexed (λ i r. r ≡ text (get_or (texts s (pool k s)) (byte s (data_at s v.place + i)) [])) v.fields
  item-text on =
      let claim : ℕ → ℕ → ReferenceValue → Type 0 = λ p i r. r ≡ text (get_or (texts s (pool k s)) (byte s (data_at s p + i)) []) in
      item-each claim
      (all-map IndexesBelow (Claimed claim)
      (λ p below l i h. value-text s (pool k s) (byte s (data_at s p + i)) (below l i h)) (items s) (indexes-resolve k s c e on))

  -- so none is undecodable
  pub item-decoded : listed k (Tag 0x01) ≡ true → (n : ℕ) (v : ItemValues) → item_said s (item_numbered k s n) ≡ says v → EachReference (λ r. r ≡ undecodable → ⊥) v.fields
  item-decoded on n v said =
      each-map (λ i r. r ≡ text (get_or (texts s (pool k s)) (byte s (data_at s v.place + i)) [])) (λ i r. r ≡ undecodable → ⊥)
      (λ i r t u. text-decodable (get_or (texts s (pool k s)) (byte s (data_at s v.place + i)) []) (sym t ∙ u)) v.fields (item-text on n v said)

  -- with 01 off the list, each is
  pub item-undecoded : listed k (Tag 0x01) ≡ false → (n : ℕ) (v : ItemValues) → item_said s (item_numbered k s n) ≡ says v → EachReference (λ r. r ≡ undecodable) v.fields
  item-undecoded off =
      item-each (λ p i r. r ≡ undecodable)
      (all-of (Claimed (λ p i r. r ≡ undecodable))
      (λ p l i h. ap (reference_value s) (reference-unlisted k s off (byte s (data_at s p + i)))) (items s))

  -- ---- string by number
  string-accepted : (b : Bool) → listed k (Tag 0x01) ≡ b → (n : ℕ) → string_numbered k s n ≡ cond b (as_string (reference s (pool k s) n)) (Ok None)
  unfolding string_numbered
  string-accepted b l n =
      ap (string_if k s n) e ∙ string-by-reference k s n c
      ∙ ap (λ (t : Bool). cond t (as_string (reference s (pool k s) n)) (Ok None)) l

  -- with 01 on the list: the n-th text of the pool, or 42 where it has none of that number
  pub string-text : listed k (Tag 0x01) ≡ true → (n : ℕ) → n < length (texts s (pool k s)) → string_said s (string_numbered k s n) ≡ says (text (get_or (texts s (pool k s)) n []))
  string-text on n h =
      let r = reference-text s (pool k s) n h in
      ap (string_said s) (string-accepted true on n ∙ ap as_string r.found) ∙ ap (λ (t : List ℕ). says (text t)) r.spells

  pub string-beyond : listed k (Tag 0x01) ≡ true → (n : ℕ) → length (texts s (pool k s)) ≤ n → string_said s (string_numbered k s n) ≡ refused 42 0
  string-beyond on n h = ap (string_said s) (string-accepted true on n ∙ ap as_string (reference-past s (pool k s) n h))

  -- with 01 off the list: undecodable
  pub string-unlisted : listed k (Tag 0x01) ≡ false → (n : ℕ) → string_said s (string_numbered k s n) ≡ says undecodable
  string-unlisted off n = ap (string_said s) (string-accepted false off n)

  -- ---- the name, of the only serial
  module _ (p : ℕ) (one : only (serials k s) ≡ Some p) where
    -- the string that it shows is in the pool
    serial-text : listed k (Tag 0x01) ≡ true → (serial_of (item_at k s (pool k s) p).item ≡ reference s (pool k s) (byte s (data_at s p))) × (byte s (data_at s p) < length (texts s (pool k s)))
    unfolding shape_of
    serial-text on =
        let h = only-serial k s p IndexesBelow (indexes-resolve k s c e on) one in (
          serial-shown k s p (pool k s) h.0 h.1,
          subst (λ (q : ℕ). byte s q < length (texts s (pool k s))) (omega arith)
              (h.2 (ap (λ (tag : ℕ). listed k (Tag tag)) h.1 ∙ h.0) 0
              (subst (λ (tag : ℕ). 0 < index_count (shape_of tag)) (sym h.1) (omega arith))),
        )

    -- with 01 on the list, the name is that text, by whether the buffer has room for it
    name-by-room :
        listed k (Tag 0x01) ≡ true → (buffer : List ℕ) (b : Bool)
        → let name : List ℕ = get_or (texts s (pool k s)) (byte s (data_at s p)) [] in
        leb (length name) (length buffer) ≡ b
        → name_of k s buffer ≡ cond b (Ok (length name), name ++ drop (length name) buffer) (Err (refused_with 43), buffer)
    unfolding name_of
    name-by-room on buffer b room =
        let found = serial-text on in
        let r = reference-text s (pool k s) (byte s (data_at s p)) found.1 in
        let long : r.span.length ≡ length (get_or (texts s (pool k s)) (byte s (data_at s p)) []) =
        sym (length-tab (λ i. letter (byte s (r.span.place + i))) r.span.length) ∙ ap length r.spells in
        ap (name_if k s buffer) e ∙ ap (name_at k s buffer) one ∙ ap (copied s buffer) (found.0 ∙ r.found)
        ∙ λ i. cond ((ap (λ (n : ℕ). leb n (length buffer)) long ∙ room) i) (Ok (long i), r.spells i ++ drop (long i) buffer) (Err (refused_with 43), buffer)

    -- enough room: its length, and the text at the front of the buffer
    pub name-is-text :
        listed k (Tag 0x01) ≡ true → (buffer : List ℕ)
        → let name : List ℕ = get_or (texts s (pool k s)) (byte s (data_at s p)) [] in
        length name ≤ length buffer → name_of k s buffer ≡ (Ok (length name), name ++ drop (length name) buffer)
    name-is-text on buffer room = name-by-room on buffer true (le-leb _ (length buffer) room)

    -- not enough: 43, and the buffer as it was
    pub name-too-long :
        listed k (Tag 0x01) ≡ true → (buffer : List ℕ)
        → length buffer < length (get_or (texts s (pool k s)) (byte s (data_at s p)) []) → name_of k s buffer ≡ (Err (refused_with 43), buffer)
    name-too-long on buffer short = name-by-room on buffer false (lt-leb _ (length buffer) short)
