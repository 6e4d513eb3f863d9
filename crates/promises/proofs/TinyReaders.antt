-- Two readers of one tiny image: at each place the shorter shows what the longer shows, hidden; and so do a string by number and the name, where both accept the
-- image. Of the pool only the mark of 01 matters, so both use the same one or the shorter uses none. Assumes nothing.
use Rattle.std.specs.Prelude.{[], ◌∷◌, Some, None, Ok, Err}
use Prim.Native.Nat.{ℕ, ◌+◌}
use mathlib.Core.Bool.{Bool, true, false, cond, ◌&&◌}
use mathlib.Core.List.{List}
use mathlib.Core.Logic.{◌⊎◌, inl, inr}
use mathlib.Core.Path.{◌≡◌, refl, sym, ap, ap₂, ◌∙◌}
use lib.Dec.{eqb}
use Rattle.chain.specs.Keep.{keep, only}
use Rattle.chain.specs.Found.{Found}
use Rattle.chain.proofs.laws.All.{all-of}
use Rattle.chain.proofs.laws.Keep.{keep-none}
use Rattle.kinds.specs.Kinds.{listed, Contains}
use Rattle.kinds.specs.declared.Kind.TheVariants.{Tag}
use Rattle.kinds.specs.declared.Kinds.{Kinds}
use Rattle.octets.specs.Bytes.{byte}
use Rattle.promises.specs.Hidden.{has_pool, has_serial, hide_reference, hide_identity, hide_tiny, hide_fields, hide_item, hide_entry}
use Rattle.reader.specs.Entries.{entry_at}
use Rattle.reader.specs.Items.{pool_of, item_at}
use Rattle.reader.specs.Values as reader
use Rattle.reader.specs.Values.{tiny_fields, item_values}
use Rattle.reader.specs.declared.Format.TheVariants.{Tiny}
use Rattle.tiny.specs.Answers.{refused_with, string_if, string_numbered, is_serial, serials, copied, name_at, name_if, name_of}
use Rattle.tiny.specs.Items as tiny
use Rattle.tiny.specs.Items.{identity_at, batched_at, fields_at}
use Rattle.tiny.specs.Major.{major_text}
use Rattle.tiny.specs.Values as values
use Rattle.tiny.specs.Values.{reference_value, identity_values, field_values, string_said, name_said}
use Rattle.tiny.specs.declared.Item.{Item}
use Rattle.tiny.specs.AnswerTypes.{NameAnswer}
use Rattle.tiny.proofs.laws.Exactly.{refused-unchanged, no-name-exactly}
use Rattle.tiny.proofs.laws.Resolved.{reference-unlisted, string-unlisted}
use Rattle.tiny.proofs.laws.Serials.{serial-known, serial-shown}
use Rattle.tiny.proofs.laws.Strings.{as_string, string-by-reference}
use Rattle.tiny_layout.specs.Layout.{data_at, items}
use Rattle.tiny_layout.specs.Pool.{pool}
use Rattle.tiny_layout.specs.Strings.{reference}
use Rattle.tiny_layout.specs.Tags.{shape_of}
use Rattle.tiny_layout.specs.declared.Pool.{Pool}
use Rattle.tiny_layout.specs.declared.Shape.{Shape}
use Rattle.tiny_layout.proofs.laws.Pool.{pool-lists}
use Rattle.tiny_rules.specs.Judged.{judged}
use Rattle.verdict.specs.Said.{Said, says, refused}

-- hiding the strings of a known item's fields is hiding its fields
tiny-hides : (k : Kinds) (x : values.FieldValues) → tiny_fields (hide_tiny k x) ≡ hide_fields k (tiny_fields x)
tiny-hides k (values.pool n p l) = refl
tiny-hides k (values.serial r) = refl
tiny-hides k (values.flags b) = refl
tiny-hides k (values.address bytes) = refl
tiny-hides k (values.identity x) = refl
tiny-hides k (values.batched x b) = refl
tiny-hides k values.not_known = refl

module _ (longer shorter : Kinds) (contains : Contains longer shorter) (s : List ℕ) where
  -- with the pool on its list, the shorter uses the pool that the longer uses
  same-pool : has_pool shorter ≡ true → pool shorter s ≡ pool longer s
  same-pool on = pool-lists shorter longer s (on ∙ sym (contains.keeps (Tag 0x01) on))

  -- ---- at a place
  reference-hidden : (n : ℕ) → reference_value s (reference s (pool shorter s) n) ≡ hide_reference shorter (reference_value s (reference s (pool longer s) n))
  reference-hidden n = go (has_pool shorter) refl
    where
      go : (b : Bool) → has_pool shorter ≡ b
          → reference_value s (reference s (pool shorter s) n) ≡ cond b (reference_value s (reference s (pool longer s) n)) values.undecodable
      go true on = ap (λ (x : Pool). reference_value s (reference s x n)) (same-pool on)
      go false off = ap (reference_value s) (reference-unlisted shorter s off n)

  identity-hidden : (start : ℕ) → identity_values s (identity_at s (pool shorter s) start) ≡ hide_identity shorter (identity_values s (identity_at s (pool longer s) start))
  unfolding identity_at
  identity-hidden start i =
      record {
        serial = reference-hidden (byte s start) i;
        part = reference-hidden (byte s (start + 1)) i;
        major = byte s (start + 2);
        letters = major_text (byte s (start + 2));
        minor = byte s (start + 3);
        characters = byte s (start + 4) ∷ byte s (start + 5) ∷ [];
      }

  fields-hidden : (a : Shape) (p : ℕ) → field_values s (fields_at s (pool shorter s) a p) ≡ hide_tiny shorter (field_values s (fields_at s (pool longer s) a p))
  unfolding batched_at
  fields-hidden Shape.Pool p = refl
  fields-hidden Shape.Serial p = ap values.serial (reference-hidden (byte s (data_at s p)))
  fields-hidden Shape.Flags p = refl
  fields-hidden Shape.Address p = refl
  fields-hidden Shape.Identity p = ap values.identity (identity-hidden (data_at s p))
  fields-hidden Shape.Batched p = λ i. values.batched (identity-hidden (data_at s p) i) (batched_at s (pool longer s) (data_at s p)).batch
  fields-hidden Shape.Other p = refl

  -- a kind that the shorter has, the longer has
  pub tiny-item-hidden : (p : ℕ) → item_values s (item_at Tiny shorter s (pool_of Tiny shorter s) p) ≡ hide_item shorter (item_values s (item_at Tiny longer s (pool_of Tiny longer s) p))
  unfolding tiny.item_at
  tiny-item-hidden p i =
      record {
        kind = Tag (byte s p);
        place = p;
        length = (tiny.item_at longer s (pool longer s) p).length;
        fields = go (listed shorter (Tag (byte s p))) refl i;
      }
    where
      shown_by : Kinds → Bool → values.FieldValues
      shown_by k b = field_values s (cond b (fields_at s (pool k s) (shape_of (byte s p)) p) Item.NotKnown)

      go : (b : Bool) → listed shorter (Tag (byte s p)) ≡ b
          → tiny_fields (shown_by shorter b) ≡ cond b (hide_fields shorter (tiny_fields (shown_by longer (listed longer (Tag (byte s p)))))) reader.not_known
      go true on =
          ap tiny_fields (fields-hidden (shape_of (byte s p)) p) ∙ tiny-hides shorter (shown_by longer true)
          ∙ ap (λ (b : Bool). hide_fields shorter (tiny_fields (shown_by longer b))) (sym (contains.keeps (Tag (byte s p)) on))
      go false off = refl

  pub tiny-entry-hidden : (p : ℕ) → entry_at Tiny shorter s p ≡ hide_entry Tiny shorter (entry_at Tiny longer s p)
  unfolding entry_at
  tiny-entry-hidden p i =
      record {
        kind = byte s p;
        place = p;
        length = (entry_at Tiny longer s p).length;
        known = go (listed shorter (Tag (byte s p))) refl i;
      }
    where
      go : (b : Bool) → listed shorter (Tag (byte s p)) ≡ b → b ≡ cond b (listed longer (Tag (byte s p))) false
      go true on = sym (contains.keeps (Tag (byte s p)) on)
      go false off = refl

  -- ---- string by number, and the name, where both accept
  module _ (c : ℕ) (e : judged longer s ≡ Ok c) (d : judged shorter s ≡ Ok c) where
    pub string-hidden : (n : ℕ) → string_said s (string_numbered shorter s n) ≡ cond (has_pool shorter) (string_said s (string_numbered longer s n)) (says values.undecodable)
    unfolding string_numbered
    string-hidden n = go (has_pool shorter) refl
      where
        found : (k : Kinds) → judged k s ≡ Ok c → has_pool k ≡ true → string_if k s n (judged k s) ≡ as_string (reference s (pool k s) n)
        found k f on =
            ap (string_if k s n) f ∙ string-by-reference k s n c
            ∙ ap (λ (b : Bool). cond b (as_string (reference s (pool k s) n)) (Ok None)) on

        go : (b : Bool) → has_pool shorter ≡ b
            → string_said s (string_if shorter s n (judged shorter s)) ≡ cond b (string_said s (string_if longer s n (judged longer s))) (says values.undecodable)
        go true on =
            ap (string_said s)
            (found shorter d on ∙ ap (λ (x : Pool). as_string (reference s x n)) (same-pool on) ∙ sym (found longer e (contains.keeps (Tag 0x01) on)))
        go false off = string-unlisted shorter s c d off n

    -- without the serial's kind, or without the pool, there is no name, and the buffer stays
    no-serials : has_serial shorter ≡ false → only (serials shorter s) ≡ None
    unfolding only
    no-serials off =
        ap only
        (keep-none (is_serial shorter s) (items s)
        (all-of (λ p. is_serial shorter s p ≡ false) (λ p. ap (λ (b : Bool). b && eqb (byte s p) 0x10) off) (items s)))

    no-name : (b : List ℕ) → (only (serials shorter s) ≡ None) ⊎ (has_pool shorter ≡ false) → name_of shorter s b ≡ (Err (refused_with 44), b)
    no-name b why =
        let said = (no-name-exactly shorter s c d b).1 why in
        ap₂ (λ (a : NameAnswer) (l : List ℕ). (a, l)) said (refused-unchanged shorter s b (refused_with 44) said)

    -- with both it is the same text of the same only serial
    module _ (on : has_serial shorter ≡ true) (pooled : has_pool shorter ≡ true) (b : List ℕ) where
      same-serials : serials shorter s ≡ serials longer s
      same-serials = ap (λ (t : Bool). keep (λ p. t && eqb (byte s p) 0x10) (items s)) (on ∙ sym (contains.keeps (Tag 0x10) on))

      by-text : (k : Kinds) (p : ℕ) → only (serials k s) ≡ Some p → name_at k s b (Some p) ≡ copied s b (reference s (pool k s) (byte s (data_at s p)))
      by-text k p one =
          let known = serial-known k s p one in
          ap (copied s b) (serial-shown k s p (pool k s) known.mark known.own)

      same-name : name_of shorter s b ≡ name_of longer s b
      unfolding name_of
      same-name =
          ap (name_if shorter s b) d ∙ go (only (serials shorter s)) refl ∙ ap (λ (l : List ℕ). name_at longer s b (only l)) same-serials ∙ sym (ap (name_if longer s b) e)
        where
          go : (f : Found) → only (serials shorter s) ≡ f → name_at shorter s b f ≡ name_at longer s b f
          go (Some p) one =
              by-text shorter p one ∙ ap (λ (x : Pool). copied s b (reference s x (byte s (data_at s p)))) (same-pool pooled)
              ∙ sym (by-text longer p (ap only (sym same-serials) ∙ one))
          go None one = refl

    -- the name, with what the buffer then holds
    abbrev said : NameAnswer × List ℕ → Said ℕ × List ℕ
    said a = (name_said a.0, a.1)

    abbrev pub said_by : Bool → List ℕ → Said ℕ × List ℕ
    said_by t b = cond t (said (name_of longer s b)) (refused 44 0, b)

    pub name-hidden : (b : List ℕ) → said (name_of shorter s b) ≡ said_by (has_serial shorter && has_pool shorter) b
    name-hidden b = go (has_serial shorter) refl (has_pool shorter) refl
      where
        go : (t : Bool) → has_serial shorter ≡ t → (u : Bool) → has_pool shorter ≡ u → said (name_of shorter s b) ≡ said_by (t && u) b
        go true on true pooled = ap said (same-name on pooled b)
        go true on false off = ap said (no-name b (inr off))
        go false off u pooled = ap said (no-name b (inl (no-serials off)))
