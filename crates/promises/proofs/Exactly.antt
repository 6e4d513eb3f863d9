-- Both directions of each "exactly when": an item is shown as not known exactly where the list lacks its kind and version, and marked so in the list; a string is
-- undecodable exactly where the list lacks the pool; there is no name exactly where the longer finds none or the list lacks the serial's kind or the pool.
-- Assumes nothing.
use Rattle.std.specs.Prelude.{Some, None, Ok}
use Prim.Native.Nat.{ℕ}
use mathlib.Core.Bool.{Bool, true, false, cond, ◌&&◌, false≢true}
use mathlib.Core.List.{List}
use mathlib.Core.Logic.{◌⊎◌, inl, inr, ◌↔◌}
use mathlib.Core.Path.{◌≡◌, refl, sym, ap, subst, ◌∙◌}
use native.Mathlib.Omega.{arith}
use lib.ListN.{length}
use Rattle.board.specs.Items as board
use Rattle.board.specs.Items.{item_as}
use Rattle.board.specs.Values.{item_fields}
use Rattle.board.proofs.laws.Rows.{structure-rows}
use Rattle.board_layout.specs.Layout.{signature_at, major_at, shape_at}
use Rattle.board_layout.specs.Shapes.{knows}
use Rattle.board_layout.proofs.laws.Shapes.{known-exactly}
use Rattle.chain.specs.Nth.{nth}
use Rattle.chain.specs.Found.{Found}
use Rattle.chain.proofs.laws.Below.{below}
use Rattle.kinds.specs.Kinds.{listed, Contains}
use Rattle.kinds.specs.declared.Kind.TheVariants.{Tag}
use Rattle.kinds.specs.declared.Kinds.{Kinds}
use Rattle.octets.specs.Bytes.{byte}
use Rattle.promises.proofs.Given.{view, item-given}
use Rattle.promises.proofs.TinyReaders.{said_by, name-hidden}
use Rattle.promises.proofs.View.{item_from}
use Rattle.promises.specs.Answers.{answers, EachString}
use Rattle.promises.specs.Demand2.{indexed_text}
use Rattle.promises.specs.Demand3.{NoName, is_known, as_entry}
use Rattle.promises.specs.Hidden.{has_pool, has_serial}
use Rattle.promises.specs.SameOutside.{on_list, Lacks}
use Rattle.reader.specs.Entries.{entry_at}
use Rattle.reader.specs.Formats.{judged, places, known}
use Rattle.reader.specs.Values as reader
use Rattle.reader.specs.Values.{FieldValues, ItemValues, tiny_fields, board_fields, item_values}
use Rattle.reader.specs.declared.Format.{Format}
use Rattle.reader.specs.declared.Format.TheVariants.{Tiny, Board}
use Rattle.tiny.specs.Answers as tiny-answers
use Rattle.tiny.specs.Answers.{name_of}
use Rattle.tiny.specs.Items as tiny
use Rattle.tiny.specs.Items.{fields_at}
use Rattle.tiny.specs.Texts.{EachIndexed}
use Rattle.tiny.specs.Values as tiny-values
use Rattle.tiny.specs.Values.{field_values, name_said}
use Rattle.tiny.specs.declared.Item as tiny-item
use Rattle.tiny.proofs.laws.Exactly as tiny-exactly
use Rattle.tiny.proofs.laws.Resolved.{each-map, item-text, item-decoded, item-undecoded, string-text, string-beyond, string-unlisted}
use Rattle.tiny_layout.specs.Pool.{pool}
use Rattle.tiny_layout.specs.Strings.{texts}
use Rattle.tiny_layout.specs.Tags.{shape_of}
use Rattle.verdict.specs.Said.{Said, says}

-- ---- at a place: fields are shown exactly of a known item
-- whether fields are those of a known item
tiny-filled : (x : tiny-values.FieldValues) → tiny-exactly.Filled x → is_known (tiny_fields x) ≡ true
tiny-filled (tiny-values.pool n p l) h = refl
tiny-filled (tiny-values.serial r) h = refl
tiny-filled (tiny-values.flags b) h = refl
tiny-filled (tiny-values.address bytes) h = refl
tiny-filled (tiny-values.identity x) h = refl
tiny-filled (tiny-values.batched x b) h = refl
tiny-filled tiny-values.not_known h = absurd h

pub fields-known : (f : Format) (k : Kinds) (s : List ℕ) (p : ℕ) → is_known ((view f k s).item p).fields ≡ known f k s p
unfolding tiny.item_at board.item_at
fields-known Tiny k s p = go (listed k (Tag (byte s p))) refl
  where
    go : (b : Bool) → listed k (Tag (byte s p)) ≡ b → is_known (tiny_fields (field_values s (cond b (fields_at s (pool k s) (shape_of (byte s p)) p) tiny-item.Item.NotKnown))) ≡ b
    go true on = tiny-filled (field_values s (fields_at s (pool k s) (shape_of (byte s p)) p)) (tiny-exactly.listed-filled k s (pool k s) p (byte s p) on)
    go false off = refl
fields-known Board k s p = go (knows k (shape_at s p)) refl
  where
    go : (b : Bool) → knows k (shape_at s p) ≡ b → is_known (board_fields (item_fields (cond b (item_as s p (shape_at s p)) None))) ≡ b
    go true on = ap (λ x. is_known (board_fields x)) (structure-rows k s p (shape_at s p) on)
    go false off = refl

-- so an entry is that of its item
pub entry-shown : (f : Format) (k : Kinds) (s : List ℕ) (p : ℕ) → entry_at f k s p ≡ as_entry ((view f k s).item p)
unfolding entry_at tiny.item_at board.item_at
entry-shown Tiny k s p = λ i. record { kind = byte s p; place = p; length = (entry_at Tiny k s p).length; known = sym (fields-known Tiny k s p) i }
entry-shown Board k s p = λ i. record { kind = signature_at s p; place = p; length = (entry_at Board k s p).length; known = sym (fields-known Board k s p) i }

-- known is: on the list, by kind and version
known-listed : (f : Format) (k : Kinds) (s : List ℕ) (p : ℕ) → known f k s p ≡ on_list f k s p
unfolding shape_at
known-listed Tiny k s p = refl
known-listed Board k s p = known-exactly k (signature_at s p) (major_at s p)

-- an item is shown at its own place
pub item-place : (f : Format) (k : Kinds) (s : List ℕ) (p : ℕ) → ((view f k s).item p).place ≡ p
unfolding tiny.item_at board.item_at
item-place Tiny k s p = refl
item-place Board k s p = refl

not-known : (x : FieldValues) → (x ≡ reader.not_known) ↔ (is_known x ≡ false)
not-known (reader.tiny-fields x) = (λ e. ap is_known e, λ e. absurd (false≢true (sym e)))
not-known (reader.board-fields x) = (λ e. ap is_known e, λ e. absurd (false≢true (sym e)))
not-known reader.not_known = (λ e. refl, λ e. refl)

module _ (f : Format) (k : Kinds) (s : List ℕ) (c : ℕ) (e : judged f k s ≡ Ok c) where
  -- what holds of the item at each place holds of an item that is shown
  pub shown-at :
      (P : ItemValues → Type 0) (i : ℕ) → ((p : ℕ) → nth (places f s) i ≡ Some p → P ((view f k s).item p))
      → (x : ItemValues) → (answers f k s).item i ≡ says x → P x
  shown-at P i h x said = go (nth (places f s) i) refl (sym (item-given f k s c e i) ∙ said)
    where
      go : (a : Found) → nth (places f s) i ≡ a → item_from (view f k s) a ≡ says x → P x
      go (Some p) at t = let z : (view f k s).item p ≡ x = cc in subst P z (h p at)
      go None at t = let z : ◌≡◌ {A = ℕ} 0 1 = cc in absurd (omega arith)

  -- "not known exactly when its list lacks that kind and version"
  pub unknown-exactly : (i : ℕ) (x : ItemValues) → (answers f k s).item i ≡ says x → (x.fields ≡ reader.not_known) ↔ Lacks f k s x.place
  unknown-exactly i =
      shown-at (λ x. (x.fields ≡ reader.not_known) ↔ Lacks f k s x.place) i (λ p at. at-place p)
    where
      at-place : (p : ℕ) → (((view f k s).item p).fields ≡ reader.not_known) ↔ Lacks f k s ((view f k s).item p).place
      at-place p =
          let both = not-known ((view f k s).item p).fields in
          let mark : is_known ((view f k s).item p).fields ≡ on_list f k s ((view f k s).item p).place =
          fields-known f k s p ∙ known-listed f k s p ∙ sym (ap (on_list f k s) (item-place f k s p)) in
          (λ h. sym mark ∙ both.0 h, λ h. both.1 (mark ∙ h))

-- ---- strings
module _ (k : Kinds) (s : List ℕ) (c : ℕ) (e : judged Tiny k s ≡ Ok c) where
  -- what holds of each reference of the fields of a tiny item holds of the item as shown
  each-shown : (P : ℕ → tiny-values.ReferenceValue → Type 0) (x : tiny-values.FieldValues) → EachIndexed P x → EachString P (tiny_fields x)
  each-shown P (tiny-values.pool n p l) h = h
  each-shown P (tiny-values.serial r) h = h
  each-shown P (tiny-values.flags b) h = h
  each-shown P (tiny-values.address bytes) h = h
  each-shown P (tiny-values.identity x) h = h
  each-shown P (tiny-values.batched x b) h = h
  each-shown P tiny-values.not_known h = tt

  -- the item at p as its format shows it, and that it is what is said of its number
  abbrev item : ℕ → tiny-values.ItemValues
  item p = tiny-values.item_values s (tiny.item_at k s (pool k s) p)

  said : (i p : ℕ) → nth (places Tiny s) i ≡ Some p → tiny-values.item_said s (tiny-answers.item_numbered k s i) ≡ says (item p)
  unfolding tiny-answers.item_numbered
  said i p at = ap (λ j. tiny-values.item_said s (tiny-answers.item_if k s i j)) e ∙ ap (λ a. tiny-values.item_said s (tiny-answers.numbered k s a)) at

  -- a string inside an item is the text whose number its index byte holds
  pub texts-shown : has_pool k ≡ true → (i : ℕ) (x : ItemValues) → (answers Tiny k s).item i ≡ says x → EachString (λ j r. r ≡ tiny-values.text (indexed_text k s x.place j)) x.fields
  unfolding tiny.item_at
  texts-shown on i =
      shown-at Tiny k s c e (λ x. EachString (λ j r. r ≡ tiny-values.text (indexed_text k s x.place j)) x.fields) i
      (λ p at. each-shown (λ j r. r ≡ tiny-values.text (indexed_text k s p j)) (item p).fields (item-text k s c e on i (item p) (said i p at)))

  -- "a string as undecodable exactly when its list lacks the pool"
  abbrev Exact : tiny-values.ReferenceValue → Type 0
  Exact r = (r ≡ tiny-values.undecodable) ↔ (has_pool k ≡ false)

  -- a string inside an item
  pub undecoded-exactly : (i : ℕ) (x : ItemValues) → (answers Tiny k s).item i ≡ says x → EachString (λ j. Exact) x.fields
  undecoded-exactly i = shown-at Tiny k s c e (λ x. EachString (λ j. Exact) x.fields) i (λ p at. each-shown (λ j. Exact) (item p).fields (go p at (has_pool k) refl))
    where
      go : (p : ℕ) → nth (places Tiny s) i ≡ Some p → (b : Bool) → has_pool k ≡ b → EachIndexed (λ j. Exact) (item p).fields
      go p at true on =
          each-map (λ j r. r ≡ tiny-values.undecodable → ⊥) (λ j. Exact) (λ j r never. (λ h. absurd (never h), λ off. absurd (false≢true (sym off ∙ on))))
          (item p).fields (item-decoded k s c e on i (item p) (said i p at))
      go p at false off =
          each-map (λ j r. r ≡ tiny-values.undecodable) (λ j. Exact) (λ j r is. (λ h. off, λ h. is)) (item p).fields (item-undecoded k s c e off i (item p) (said i p at))

  -- and one looked up by any number
  pub unlooked-exactly : (n : ℕ) → ((answers Tiny k s).further.string n ≡ says tiny-values.undecodable) ↔ (has_pool k ≡ false)
  unfolding answers
  unlooked-exactly n = (to (has_pool k) refl, λ off. string-unlisted k s c e off n)
    where
      count : ℕ
      count = length (texts s (pool k s))

      to : (b : Bool) → has_pool k ≡ b → tiny-values.string_said s (tiny-answers.string_numbered k s n) ≡ says tiny-values.undecodable → has_pool k ≡ false
      to true on said =
          elim (below n count) [
            | inl h ↦ let t = sym (string-text k s c e on n h) ∙ said in let z : ◌≡◌ {A = ℕ} 0 1 = cc in absurd (omega arith)
            | inr h ↦ let t = sym (string-beyond k s c e on n h) ∙ said in let z : ◌≡◌ {A = ℕ} 0 1 = cc in absurd (omega arith)
          ]
      to false off said = off

-- ---- the name, of two readers
module _ (longer shorter : Kinds) (contains : Contains longer shorter) (s : List ℕ) (c : ℕ) (e : judged Tiny longer s ≡ Ok c) (d : judged Tiny shorter s ≡ Ok c) where
  pub nameless-exactly : (b : List ℕ) → NoName shorter s b ↔ (NoName longer s b ⊎ ((has_serial shorter ≡ false) ⊎ (has_pool shorter ≡ false)))
  unfolding answers
  nameless-exactly b = go (has_serial shorter) refl (has_pool shorter) refl (ap (λ (a : Said ℕ × List ℕ). a.0) (name-hidden longer shorter contains s c e d b))
    where
      Lacking : Type 0
      Lacking = (has_serial shorter ≡ false) ⊎ (has_pool shorter ≡ false)

      none : (mark : Bool) → mark ≡ true → mark ≡ false → ⊥
      none mark on off = false≢true (sym off ∙ on)

      go : (t : Bool) → has_serial shorter ≡ t → (u : Bool) → has_pool shorter ≡ u
          → name_said (name_of shorter s b).0 ≡ (said_by longer shorter contains s c e d (t && u) b).0
          → NoName shorter s b ↔ (NoName longer s b ⊎ Lacking)
      go true on true pooled same = (
        λ h. inl (sym same ∙ h),
        λ h. elim h [
          | inl longer-none ↦ same ∙ longer-none
          | inr (inl off) ↦ absurd (none (has_serial shorter) on off)
          | inr (inr off) ↦ absurd (none (has_pool shorter) pooled off)
        ],
      )
      go true on false off same = (λ h. inr (inr off), λ h. same)
      go false off u pooled same = (λ h. inr (inl off), λ h. same)
