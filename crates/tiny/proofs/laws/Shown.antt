-- The answers show the texts of the pool's split, in every image: a reference is the text of its index, a string looked up the text of its number.
-- Assumes nothing.
use Rattle.std.specs.Prelude.{ℕ, ◌+◌, Bool, cond, List, [], ◌≡◌, ltb, length, get_or, Some, None, Ok, Err}
use Rattle.std.proofs.Math.Bool.{true, false}
use Rattle.std.proofs.Common.{inl, inr, sym, subst, ◌∙◌, lt-ltb, le-ltb}
use Rattle.std.proofs.Math.Path.{refl, ap}
use Rattle.chain.specs.Nth.{nth}
use Rattle.chain.specs.Found.{Found}
use Rattle.chain.proofs.laws.Below.{below}
use Rattle.kinds.specs.Kinds.{listed}
use Rattle.kinds.specs.declared.Kind.TheVariants.{Tag}
use Rattle.kinds.specs.declared.Kinds.{Kinds}
use Rattle.octets.specs.Bytes.{byte}
use Rattle.tiny_layout.specs.Layout.{data_at, items}
use Rattle.tiny_layout.specs.Pool.{is_known, pool}
use Rattle.tiny_layout.specs.Strings.{strings, texts, reference}
use Rattle.tiny_layout.specs.Tags.{shape_of}
use Rattle.tiny_rules.specs.Judged.{judged}
use Rattle.tiny.specs.Answers.{numbered, looked, item_if, item_numbered, string_if, string_numbered}
use Rattle.tiny.specs.Items.{fields_at, item_at}
use Rattle.tiny.specs.Texts.{referred, text_if, text_numbered, EachIndexed, ShowsTexts}
use Rattle.tiny.specs.Values.{ReferenceValue, text, undecodable, reference_value, field_values, string_said}
use Rattle.tiny.specs.declared.Item.{Item}
use Rattle.tiny.specs.AnswerTypes.{ItemAnswer, StringAnswer}
use Rattle.tiny.proofs.laws.Resolved.{value-text, reference-past, fields-each, string-text, string-beyond, string-unlisted}
use Rattle.verdict.specs.Said.{Said, says, refused}
use Rattle.verdict.specs.Answers.{Judged}
use Rattle.verdict.specs.declared.Refusal.{Refusal}

-- the string count
abbrev count : Kinds → List ℕ → ℕ
count k s = length (texts s (pool k s))

module _ (k : Kinds) (s : List ℕ) (n : ℕ) where
  -- a reference is the text of its index
  pub reference-shown : reference_value s (reference s (pool k s) n) ≡ referred k s n
  reference-shown =
      elim (below n (count k s)) [
        | inl h ↦ value-text s (pool k s) n h ∙ sym (ap chosen (lt-ltb n (count k s) h))
        | inr h ↦ ap (reference_value s) (reference-past s (pool k s) n h) ∙ sym (ap chosen (le-ltb n (count k s) h))
      ]
    where
      chosen : Bool → ReferenceValue
      chosen b = cond b (text (get_or (texts s (pool k s)) n [])) undecodable

module _ (k : Kinds) (s : List ℕ) (n : ℕ) where
  -- a string looked up is the text of its number
  pub string-shown : string_said s (string_numbered k s n) ≡ text_numbered k s n
  unfolding text_numbered string_numbered
  string-shown = go (judged k s) refl
    where
      back : (c : ℕ) → judged k s ≡ Ok c → string_said s (string_if k s n (Ok c)) ≡ string_said s (string_if k s n (judged k s))
      back c e = ap (λ (j : Judged). string_said s (string_if k s n j)) (sym e)

      listed_by : (c : ℕ) → judged k s ≡ Ok c → (b : Bool) → listed k (Tag 0x01) ≡ b
          → string_said s (string_if k s n (judged k s)) ≡ cond b (cond (ltb n (count k s)) (says (text (get_or (texts s (pool k s)) n []))) (refused 42 0)) (says undecodable)
      listed_by c e true on =
          elim (below n (count k s)) [
            | inl h ↦ string-text k s c e on n h ∙ sym (ap chosen (lt-ltb n (count k s) h))
            | inr h ↦ string-beyond k s c e on n h ∙ sym (ap chosen (le-ltb n (count k s) h))
          ]
        where
          chosen : Bool → Said ReferenceValue
          chosen b = cond b (says (text (get_or (texts s (pool k s)) n []))) (refused 42 0)
      listed_by c e false off = string-unlisted k s c e off n

      go : (j : Judged) → judged k s ≡ j → string_said s (string_if k s n j) ≡ text_if k s n j
      go (Ok c) e = back c e ∙ listed_by c e (listed k (Tag 0x01)) refl
      go (Err r) e = refl

  -- each reference of an item shown is what its index byte refers to
  pub item-texts : ShowsTexts k s (item_numbered k s n)
  unfolding item_numbered item_at
  item-texts = go (judged k s)
    where
      fields : (p : ℕ) (b : Bool) → EachIndexed (λ i r. r ≡ referred k s (byte s (data_at s p + i))) (field_values s (cond b (fields_at s (pool k s) (shape_of (byte s p)) p) Item.NotKnown))
      fields p true =
          fields-each s (pool k s) (λ i r. r ≡ referred k s (byte s (data_at s p + i))) p (shape_of (byte s p))
          (λ i h. reference-shown k s (byte s (data_at s p + i)))
      fields p false = tt

      found : (f : Found) → ShowsTexts k s (numbered k s f)
      found (Some p) = fields p (is_known k s p)
      found None = tt

      go : (j : Judged) → ShowsTexts k s (item_if k s n j)
      go (Ok c) = found (nth (items s) n)
      go (Err r) = tt

  -- so an answer that is the defined one shows these texts
  pub item-told : (r : ItemAnswer) → r ≡ item_numbered k s n → (r ≡ item_numbered k s n) × ShowsTexts k s r
  item-told r e = (e, subst (ShowsTexts k s) (sym e) item-texts)

  pub string-told : (r : StringAnswer) → r ≡ string_numbered k s n → (r ≡ string_numbered k s n) × (string_said s r ≡ text_numbered k s n)
  string-told r e = (e, ap (string_said s) e ∙ string-shown)

  -- the answer on an image that is refused, and on an accepted one by what is found of the number
  pub item-refused : {r : ItemAnswer} {e : Refusal} → r ≡ Err e → Err e ≡ judged k s → (r ≡ item_numbered k s n) × ShowsTexts k s r
  unfolding item_numbered
  item-refused out verdict = item-told _ (out ∙ ap (item_if k s n) verdict)

  pub item-found : {r : ItemAnswer} {f : Found} {c : ℕ} → nth (items s) n ≡ f → Ok c ≡ judged k s → r ≡ numbered k s f → (r ≡ item_numbered k s n) × ShowsTexts k s r
  unfolding item_numbered
  item-found found verdict out = item-told _ (out ∙ sym (ap (numbered k s) found) ∙ ap (item_if k s n) verdict)

  pub string-refused : {r : StringAnswer} {e : Refusal} → r ≡ Err e → Err e ≡ judged k s → (r ≡ string_numbered k s n) × (string_said s r ≡ text_numbered k s n)
  unfolding string_numbered
  string-refused out verdict = string-told _ (out ∙ ap (string_if k s n) verdict)

  -- the answer of an accepted image, by whether 01 is on the list
  by-list : {c : ℕ} (b : Bool) → Ok c ≡ judged k s → b ≡ listed k (Tag 0x01)
      → cond b (looked s (pool k s) (nth (strings s (pool k s)) n)) (Ok None) ≡ string_if k s n (judged k s)
  by-list b verdict on = ap (λ (m : Bool). cond m (looked s (pool k s) (nth (strings s (pool k s)) n)) (Ok None)) on ∙ ap (string_if k s n) verdict

  pub string-off : {c : ℕ} → Ok c ≡ judged k s → false ≡ listed k (Tag 0x01)
      → (Ok None ≡ string_numbered k s n) × (string_said s (Ok None) ≡ text_numbered k s n)
  unfolding string_numbered
  string-off verdict off = string-told _ (by-list false verdict off)

  pub string-found : {r : StringAnswer} {f : Found} {c : ℕ} → nth (strings s (pool k s)) n ≡ f → Ok c ≡ judged k s → true ≡ listed k (Tag 0x01) → r ≡ looked s (pool k s) f
      → (r ≡ string_numbered k s n) × (string_said s r ≡ text_numbered k s n)
  unfolding string_numbered
  string-found found verdict on out = string-told _ (out ∙ sym (ap (looked s (pool k s)) found) ∙ by-list true verdict on)
