-- What two images show of one item, where its head agrees, its data where it is known, and the bytes of the pool: the same fields, and in them the same texts,
-- as places and as bytes. Assumes nothing.
use Rattle.std.specs.Prelude.{ℕ, ◌+◌, ◌-◌, ◌≤◌, ◌<◌, [], ◌∷◌, ◌≡◌, leb, drop, Some, None, Ok, Err}
use Rattle.std.proofs.Math.Bool.{Bool, true, false, cond}
use mathlib.Core.List.{List, ◌++◌}
use Rattle.std.proofs.Math.Path.{refl, ap, ap₂}
use Rattle.std.proofs.Common.{◌∙◌, arith}
use Rattle.std.proofs.Math.ListN.{length}
use Rattle.chain.specs.Nth.{nth}
use Rattle.chain.specs.Found.{Found}
use Rattle.kinds.specs.Kinds.{listed}
use Rattle.kinds.specs.declared.Kind.TheVariants.{Tag}
use Rattle.kinds.specs.declared.Kinds.{Kinds}
use Rattle.octets.specs.Bytes.{byte, run}
use Rattle.octets.proofs.laws.Same.{Same, le16-same, run-same}
use Rattle.tiny_layout.specs.Layout.{data_at, next}
use Rattle.tiny_layout.specs.Pool.{is_known, pool_at}
use Rattle.tiny_layout.specs.Strings.{strings, text_of, reference_at, reference}
use Rattle.tiny_layout.specs.Tags.{shape_of, field_bytes, index_count}
use Rattle.tiny_layout.specs.declared.Pool.{Pool}
use Rattle.tiny_layout.specs.Reference.{Reference}
use Rattle.tiny_layout.specs.declared.Shape.{Shape}
use Rattle.tiny_layout.proofs.laws.Same.{tag-same, length-same, data-same, next-same, texts-same, reference-same, text-same}
use Rattle.tiny_layout.proofs.laws.Tags.{fields-within}
use Rattle.tiny.specs.Answers.{refused_with, copied}
use Rattle.tiny.specs.Items.{identity_at, batched_at, pool_shown, fields_at, item_at}
use Rattle.tiny.specs.Major.{major_text}
use Rattle.tiny.specs.Values.{text, serial, identity, batched, reference_value, identity_values, field_values, item_values, string_said}
use Rattle.tiny.specs.declared.Item.{Item}
use Rattle.tiny.proofs.laws.Strings.{as_string}
use Rattle.verdict.specs.Said.{says}

-- ---- a reference whose text is the same in both images: so is its value, what a lookup says of it, and the copy of it
module _ (s t : List ℕ) where
  abbrev pub SameText : Reference → Type 0
  SameText (Some span) = text_of s span ≡ text_of t span
  SameText None = Unit {0}

  value-same : (r : Reference) → SameText r → reference_value s r ≡ reference_value t r
  value-same (Some span) e = ap text e
  value-same None e = refl

  pub said-same : (r : Reference) → SameText r → string_said s (as_string r) ≡ string_said t (as_string r)
  said-same (Some span) e = λ i. says (text (e i))
  said-same None e = refl

  pub copied-same : (buffer : List ℕ) (r : Reference) → SameText r → copied s buffer r ≡ copied t buffer r
  copied-same buffer (Some span) e = λ i.
      cond (leb span.length (length buffer)) (Ok span.length, e i ++ drop span.length buffer)
      (Err (refused_with 43), buffer)
  copied-same buffer None e = refl

-- ---- with the strings of a pool whose bytes agree
module _ (s t : List ℕ) (x : Pool) (pool : Same s t x.from x.to) where
  -- the text of each string is the same
  pub reference-text : (n : ℕ) → SameText s t (reference s x n)
  unfolding reference
  reference-text n = go (nth (strings s x) n) refl
    where
      go : (f : Found) → nth (strings s x) n ≡ f → SameText s t (reference_at s x f)
      go (Some p) e = text-same s t x pool n p e
      go None e = tt

  -- the string whose number is the byte at q
  pub index-same : (q : ℕ) → byte s q ≡ byte t q → reference s x (byte s q) ≡ reference t x (byte t q)
  index-same q e = reference-same s t x pool (byte s q) ∙ ap (reference t x) e

  -- the index bytes among those from one place up to another refer to the same strings
  abbrev pub Refer : ℕ → ℕ → Type 0
  Refer from to = (q : ℕ) → from ≤ q → q < to → reference s x (byte s q) ≡ reference t x (byte t q)

  -- ---- fields from `start` on: two indexes that refer to the same, and all after them up to b agrees
  module _ (start b : ℕ) (refer : Refer start (start + 2)) (same : Same s t (start + 2) b) where
    identity-same : start + 6 ≤ b → identity_at s x start ≡ identity_at t x start
    unfolding identity_at
    identity-same h i =
        record {
          serial = refer start (omega arith) (omega arith) i;
          part = refer (start + 1) (omega arith) (omega arith) i;
          major = same (start + 2) (omega arith) (omega arith) i;
          minor = same (start + 3) (omega arith) (omega arith) i;
          characters = same (start + 4) (omega arith) (omega arith) i ∷ same (start + 5) (omega arith) (omega arith) i ∷ [];
        }

    batched-same : start + 8 ≤ b → batched_at s x start ≡ batched_at t x start
    unfolding batched_at
    batched-same h i =
        record {
          identity = identity-same (omega arith) i;
          batch = le16-same s t (start + 2) b same (start + 6) (omega arith) (omega arith) i;
        }

  -- ---- the item at p, whose head agrees
  module _ (p : ℕ) (head : Same s t p (data_at s p)) where
    -- its data, by the row of its tag: the indexes refer to the same strings, and all after them agrees
    abbrev pub OwnSame : Shape → Type 0
    OwnSame a = Refer (data_at s p) (data_at s p + index_count a) × Same s t (data_at s p + index_count a) (next s p)

    shown-same : Same s t (data_at s p) (next s p) → pool_shown s (pool_at s (Some p)) ≡ pool_shown t (pool_at t (Some p))
    unfolding pool_shown
    shown-same own =
        ap (λ (l : List (List ℕ)). record { count = length l; bytes = record { place = data_at s p; length = next s p - data_at s p } })
        (texts-same s t (pool_at s (Some p)) own)
        ∙ ap₂ (λ (a b : ℕ). pool_shown t (record { from = a; to = b })) (data-same s t p head) (next-same s t p head)

    -- what is read where the data begin
    moved : {A : Type 0} (f : ℕ → A) → f (data_at s p) ≡ f (data_at t p)
    moved f = ap f (data-same s t p head)

    -- a row without an index: all its data agree
    whole : (a : Shape) → index_count a ≡ 0 → OwnSame a → Same s t (data_at s p) (next s p)
    whole a none own q h l = own.1 q (omega arith) l

    fields-same : (a : Shape) → data_at s p + field_bytes a ≤ next s p → OwnSame a → fields_at s x a p ≡ fields_at t x a p
    fields-same Shape.Pool h own = ap Item.Pool (shown-same (whole Shape.Pool refl own))
    fields-same Shape.Serial h own =
        ap Item.Serial (own.0 (data_at s p) (omega arith) (omega arith)) ∙ moved (λ q. Item.Serial (reference t x (byte t q)))
    fields-same Shape.Flags h own =
        ap Item.Flags (whole Shape.Flags refl own (data_at s p) (omega arith) (omega arith)) ∙ moved (λ q. Item.Flags (byte t q))
    fields-same Shape.Address h own =
        ap Item.Address (run-same s t (data_at s p) (next s p) (whole Shape.Address refl own) (data_at s p) (omega arith) 6 h) ∙ moved (λ q. Item.Address (run t q 6))
    fields-same Shape.Identity h own =
        ap Item.Identity (identity-same (data_at s p) (next s p) own.0 own.1 h) ∙ moved (λ q. Item.Identity (identity_at t x q))
    fields-same Shape.Batched h own =
        ap Item.Batched (batched-same (data_at s p) (next s p) own.0 own.1 h) ∙ moved (λ q. Item.Batched (batched_at t x q))
    fields-same Shape.Other h own = refl

    -- the data need agree only where it is known
    pub item-same : (k : Kinds) → (is_known k s p ≡ true → OwnSame (shape_of (byte s p))) → item_at k s x p ≡ item_at k t x p
    unfolding item_at
    item-same k own i =
        record {
          tag = tag-same s t p head i;
          place = p;
          length = length-same s t p head i;
          item =
              (go (is_known k s p) refl
              ∙ ap (λ (tag : ℕ). cond (listed k (Tag tag)) (fields_at t x (shape_of tag) p) Item.NotKnown) (tag-same s t p head)) i;
        }
      where
        go : (b : Bool) → is_known k s p ≡ b
            → cond b (fields_at s x (shape_of (byte s p)) p) Item.NotKnown ≡ cond b (fields_at t x (shape_of (byte s p)) p) Item.NotKnown
        go true e = fields-same (shape_of (byte s p)) (fields-within s p) (own e)
        go false e = refl

  -- ---- the values of what the first image shows
  identity-values : (start : ℕ) → identity_values s (identity_at s x start) ≡ identity_values t (identity_at s x start)
  unfolding identity_at
  identity-values start i =
      record {
        serial = value-same s t (reference s x (byte s start)) (reference-text (byte s start)) i;
        part = value-same s t (reference s x (byte s (start + 1))) (reference-text (byte s (start + 1))) i;
        major = byte s (start + 2);
        letters = major_text (byte s (start + 2));
        minor = byte s (start + 3);
        characters = byte s (start + 4) ∷ byte s (start + 5) ∷ [];
      }

  field-values : (a : Shape) (p : ℕ) → field_values s (fields_at s x a p) ≡ field_values t (fields_at s x a p)
  unfolding batched_at
  field-values Shape.Pool p = refl
  field-values Shape.Serial p =
      ap serial (value-same s t (reference s x (byte s (data_at s p))) (reference-text (byte s (data_at s p))))
  field-values Shape.Flags p = refl
  field-values Shape.Address p = refl
  field-values Shape.Identity p = ap identity (identity-values (data_at s p))
  field-values Shape.Batched p = λ i. batched (identity-values (data_at s p) i) (batched_at s x (data_at s p)).batch
  field-values Shape.Other p = refl

  pub item-values : (k : Kinds) (p : ℕ) → item_values s (item_at k s x p) ≡ item_values t (item_at k s x p)
  unfolding item_at
  item-values k p i =
      record {
        kind = (item_at k s x p).tag;
        place = p;
        length = (item_at k s x p).length;
        fields = go (is_known k s p) i;
      }
    where
      item : Bool → Item
      item b = cond b (fields_at s x (shape_of (byte s p)) p) Item.NotKnown

      go : (b : Bool) → field_values s (item b) ≡ field_values t (item b)
      go true = field-values (shape_of (byte s p)) p
      go false = refl
