-- What holds of a tag and its row, shown at each row of the table: one law for all that is said by tag. From it, the fields of an item lie within its
-- data. Assumes nothing.
use Rattle.std.specs.Prelude.{ℕ, ◌+◌, ◌/◌, ◌≤◌, ◌<◌, Bool, true, false, cond, List, ◌≡◌, refl, eqb}
use Rattle.std.proofs.Common.{inl, inr, sym, subst, arith, lit≤, eqb-true}
use Rattle.chain.proofs.laws.Below.{below}
use Rattle.octets.specs.Bytes.{byte}
use Rattle.tiny_layout.specs.Layout.{is_long, data_length, data_at, next}
use Rattle.tiny_layout.specs.Tags.{shape_of, index_count, field_bytes}
use Rattle.tiny_layout.specs.declared.Shape.{Shape}
use Rattle.tiny_layout.specs.declared.Shape.TheVariants.{Pool, Serial, Flags, Address, Identity, Batched, Other}

-- one row: the claim at its tag, and at any tag by what is said of the later rows
row : (P : ℕ → Shape → Type 0) (tag n : ℕ) (a b : Shape) → P n a → P tag b → P tag (cond (eqb tag n) a b)
row P tag n a b x y = go (eqb tag n) refl
  where
    go : (t : Bool) → eqb tag n ≡ t → P tag (cond t a b)
    go true e = subst (λ (m : ℕ). P m a) (sym (eqb-true tag n e)) x
    go false e = y

-- a claim about each tag and its row, shown at the eight tags and of any tag without a row, holds of every tag
pub shape-view :
    (P : ℕ → Shape → Type 0) → P 0x01 Pool → P 0x10 Serial → P 0x11 Flags → P 0x60 Address → P 0x61 Identity → P 0x62 Identity → P 0x80 Batched → P 0x81 Batched
    → ((tag : ℕ) → P tag Other) → (tag : ℕ) → P tag (shape_of tag)
unfolding shape_of
shape-view P a b c d e f g h other tag =
    row P tag 0x01 Pool _ a
    (row P tag 0x10 Serial _ b
    (row P tag 0x11 Flags _ c
    (row P tag 0x60 Address _ d
    (row P tag 0x61 Identity _ e
    (row P tag 0x62 Identity _ f
    (row P tag 0x80 Batched _ g
    (row P tag 0x81 Batched Other h (other tag))))))))

-- a row's fields take as many bytes as its tag's high four bits say: "its tables of sizes decide". (The pool has no fields.)
pub fields-exact : (tag : ℕ) → 0 < field_bytes (shape_of tag) → field_bytes (shape_of tag) ≡ tag / 16
fields-exact =
    shape-view (λ tag a. 0 < field_bytes a → field_bytes a ≡ tag / 16) (λ h. absurd (omega arith)) (λ h. refl) (λ h. refl) (λ h. refl) (λ h. refl) (λ h. refl) (λ h. refl)
    (λ h. refl) (λ tag h. absurd (omega arith))

fields-short : (tag : ℕ) → field_bytes (shape_of tag) ≤ tag / 16
fields-short tag =
    elim (below 0 (field_bytes (shape_of tag))) [ inl h ↦ omega (arith, fields-exact tag h) | inr h ↦ omega arith ]

-- the fields of an item lie within it
pub fields-within : (s : List ℕ) (p : ℕ) → data_at s p + field_bytes (shape_of (byte s p)) ≤ next s p
unfolding next data_length
fields-within s p = omega (arith, go (is_long (byte s p)) refl)
  where
    go : (b : Bool) → is_long (byte s p) ≡ b → field_bytes (shape_of (byte s p)) ≤ cond b (byte s (p + 1)) (byte s p / 16)
    go true e = omega (arith, fields-short (byte s p), eqb-true (byte s p / 16) 0 e)
    go false e = fields-short (byte s p)

-- the string indexes of a row are among its fields
pub indexes-within : (a : Shape) → index_count a ≤ field_bytes a
indexes-within Pool = lit≤ tt
indexes-within Serial = lit≤ tt
indexes-within Flags = lit≤ tt
indexes-within Address = lit≤ tt
indexes-within Identity = lit≤ tt
indexes-within Batched = lit≤ tt
indexes-within Other = lit≤ tt
