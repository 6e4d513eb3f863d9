-- The judge reads the L bytes of an image and nothing lent past them: two images that agree on the first one's L bytes, both lent whole, get one
-- answer, a refusal included. The tables of rules agree rule by rule; the rules from 9 on read data, which lie within the L bytes where rule 6 is
-- not broken. Assumes nothing.
use Prim.Native.Nat.{ℕ, ◌+◌, ◌≤◌}
use Rattle.std.specs.Prelude.{Bool, ◌&&◌, ◌||◌, ◌≡◌, refl, leb, take, None, Ok}
use Rattle.std.proofs.Math.Bool.{cond, not}
use mathlib.Core.List.{List}
use Rattle.std.proofs.Math.Path.{sym, ap, ap₂}
use Rattle.std.proofs.Common.{◌∙◌, arith, le-ltb}
use Rattle.std.proofs.Math.Dec.{eqb, ltb}
use Rattle.std.proofs.Math.ListN.{length}
use Rattle.chain.specs.All.{All}
use Rattle.chain.specs.Chain.{ahead, range}
use Rattle.chain.specs.First.{first, when, or_else}
use Rattle.chain.specs.Found.{Found}
use Rattle.chain.proofs.laws.Agree.{search-agree}
use Rattle.chain.proofs.laws.All.{all-map}
use Rattle.chain.proofs.laws.First.{first-agree}
use Rattle.chain.proofs.laws.Loops.{one-grows}
use Rattle.crc.specs.Crc8.{crc8}
use Rattle.kinds.specs.Kinds.{listed}
use Rattle.kinds.specs.declared.Kind.TheVariants.{Tag}
use Rattle.kinds.specs.declared.Kinds.{Kinds}
use Rattle.octets.specs.Bytes.{byte}
use Rattle.octets.specs.Label.{is_text}
use Rattle.octets.proofs.laws.Same.{Same, le16-same, take-same}
use Rattle.tiny_layout.specs.Layout.{total, check_place, data_at, next, items}
use Rattle.tiny_layout.specs.Pool.{pool}
use Rattle.tiny_layout.specs.Strings.{is_marked, letter, texts}
use Rattle.tiny_layout.specs.Tags.{shape_of, index_count, field_bytes}
use Rattle.tiny_layout.specs.declared.Pool.{Pool}
use Rattle.tiny_layout.specs.declared.Shape.{Shape}
use Rattle.tiny_layout.proofs.laws.Layout.{data-within}
use Rattle.tiny_layout.proofs.laws.Same.{tag-same, data-same, next-same, texts-same, total-same, check-same, part-same, heads-same, items-same, pool-same}
use Rattle.tiny_layout.proofs.laws.Tags.{fields-within, indexes-within}
use Rattle.tiny_rules.specs.Judged.{rules, judged}
use Rattle.tiny_rules.specs.Rules.{rule1, rule2, rule3, rule4, rule5, passes, rule6, reserved, rule7, early, rule8, unfit, rule9, on_known, beyond, bad_index, rule10, is_major, is_minor, is_batch, bad_revision, bad_batch, bad_field, rule11}
use Rattle.tiny_rules.proofs.laws.Accepted.{unpassed-fit, unpassed-pool}
use Rattle.verdict.proofs.laws.Agree.{Agree, agree-more, agree-answer}

module _ (s t : List ℕ) (long : 4 ≤ total s) (same : Same s t 0 (total s)) where
  -- ---- a rule along the items: two tests that agree at each item find the same
  along-same : (P : ℕ → Type 0) → All P (items s) → (f g : ℕ → Found) → ((p : ℕ) → P p → f p ≡ g p) → first f (items s) ≡ first g (items t)
  along-same P a f g h =
      first-agree f g (items s) (all-map P (λ p. f p ≡ g p) h (items s) a) ∙ ap (first g) (items-same s t long same)

  -- rules 6, 7 and 8 read the heads of the items
  rule6-same : rule6 s ≡ rule6 t
  unfolding rule6
  rule6-same =
      along-same (λ p. Same s t p (data_at s p)) (heads-same s t long same) (passes s) (passes t)
      (λ p head i.
      let end = check-same s t long same i in
      when (ltb end (data-same s t p head i) || ltb end (next-same s t p head i)) p)

  rule7-same : rule7 s ≡ rule7 t
  unfolding rule7
  rule7-same =
      along-same (λ p. Same s t p (data_at s p)) (heads-same s t long same) (reserved s) (reserved t)
      (λ p head i. when (eqb (tag-same s t p head i) 0x00) p)

  rule8-same : (k : Kinds) → rule8 k s ≡ rule8 k t
  unfolding rule8
  rule8-same k =
      along-same (λ p. Same s t p (data_at s p)) (heads-same s t long same) (early k s) (early k t)
      (λ p head i.
      when (listed k (Tag 0x01) && eqb (tag-same s t p head i) 0x01 && ltb (next-same s t p head i) (check-same s t long same i)) p)

  -- ---- the rules on data, where rule 6 is not broken
  module _ (fit : rule6 s ≡ None) (k : Kinds) where
    rule9-same : rule9 k s ≡ rule9 k t
    unfolding rule9
    rule9-same =
        let x : Pool = pool k s in
        search-agree (unfit s x.to) (unfit t x.to) (ahead 1) x.to one-grows x.from
        (λ p _ h.
        ap (λ (b : ℕ). when (not (is_text (letter b)) || eqb (p + 1) x.to && not (is_marked b)) p)
        (same p (omega arith) (omega (arith, unpassed-pool k s fit))))
        ∙ ap (λ (y : Pool). first (unfit t y.to) (range y.from y.to)) (pool-same s t long same k)

    -- a rule on the known items: two rules that agree on data before the check byte
    known-same :
        (f g : Shape → ℕ → Found) → ((a : Shape) (start : ℕ) → start + field_bytes a ≤ check_place s → f a start ≡ g a start)
        → first (on_known k s f) (items s) ≡ first (on_known k t g) (items t)
    known-same f g agree =
        along-same (λ p. (3 ≤ p) × (next s p ≤ check_place s)) (unpassed-fit s fit) (on_known k s f) (on_known k t g)
        (λ p w.
        let head : Same s t p (data_at s p) = part-same s t long same p (data_at s p) (omega (arith, w.1, data-within s p)) in
        ap (λ (r : Found). cond (listed k (Tag (byte s p))) r None)
        (agree (shape_of (byte s p)) (data_at s p) (omega (arith, w.1, fields-within s p)))
        ∙ ap₂ (λ (tag start : ℕ). cond (listed k (Tag tag)) (g (shape_of tag) start) None) (tag-same s t p head) (data-same s t p head))

    -- rule 10: the string counts are equal, and the indexes are
    count-same : length (texts s (pool k s)) ≡ length (texts t (pool k t))
    count-same =
        ap length
        (texts-same s t (pool k s) (part-same s t long same (pool k s).from (pool k s).to (omega (arith, unpassed-pool k s fit)))
        ∙ ap (texts t) (pool-same s t long same k))

    index-same : (count : ℕ) (a : Shape) (start : ℕ) → start + field_bytes a ≤ check_place s → bad_index s count a start ≡ bad_index t count a start
    unfolding bad_index
    index-same count a start h =
        search-agree (beyond s count) (beyond t count) (ahead 1) (start + index_count a) one-grows start
        (λ p _ l.
        ap (λ (b : ℕ). when (leb count b) p) (same p (omega arith) (omega (arith, l, h, indexes-within a))))

    rule10-same : rule10 k s ≡ rule10 k t
    unfolding rule10
    rule10-same =
        let count : ℕ = length (texts s (pool k s)) in
        ap (λ (f : Found). cond (listed k (Tag 0x01)) f None)
        (known-same (bad_index s count) (bad_index t count) (index-same count)
        ∙ ap (λ (n : ℕ). first (on_known k t (bad_index t n)) (items t)) count-same)

    -- rule 11: the fields are equal
    revision-same : (start : ℕ) → start + 6 ≤ check_place s → bad_revision s start ≡ bad_revision t start
    unfolding bad_revision
    revision-same start h i =
        or_else (when (not (is_major (same (start + 2) (omega arith) (omega arith) i))) (start + 2))
        (or_else (when (not (is_minor (same (start + 3) (omega arith) (omega arith) i))) (start + 3))
        (when (not (is_text (same (start + 4) (omega arith) (omega arith) i) && is_text (same (start + 5) (omega arith) (omega arith) i))) (start + 4)))

    batch-same : (start : ℕ) → start + 8 ≤ check_place s → bad_batch s start ≡ bad_batch t start
    unfolding bad_batch
    batch-same start h =
        ap (λ (b : ℕ). when (not (is_batch b)) (start + 6)) (le16-same s t 0 (total s) same (start + 6) (omega arith) (omega arith))

    field-same : (a : Shape) (start : ℕ) → start + field_bytes a ≤ check_place s → bad_field s a start ≡ bad_field t a start
    field-same Shape.Pool start h = refl
    field-same Shape.Serial start h = refl
    field-same Shape.Flags start h = refl
    field-same Shape.Address start h = refl
    field-same Shape.Identity start h = revision-same start h
    field-same Shape.Batched start h = ap₂ or_else (revision-same start (omega arith)) (batch-same start h)
    field-same Shape.Other start h = refl

    rule11-same : rule11 k s ≡ rule11 k t
    unfolding rule11
    rule11-same = known-same (bad_field s) (bad_field t) field-same

  -- ---- the rules on the header and the check byte, where both images are lent whole
  module _ (whole : total s ≤ length s) (other : total s ≤ length t) where
    rule1-same : rule1 s ≡ rule1 t
    unfolding rule1
    rule1-same =
        ap (λ (b : Bool). when b 0) (le-ltb (length s) 4 (omega arith) ∙ sym (le-ltb (length t) 4 (omega arith)))

    rule2-same : rule2 s ≡ rule2 t
    unfolding rule2
    rule2-same = ap (λ (b : ℕ). when (not (eqb b 0x56)) 0) (same 0 (omega arith) (omega arith))

    rule3-same : rule3 s ≡ rule3 t
    unfolding rule3
    rule3-same = ap (λ (b : ℕ). when (not (eqb b 0x02)) 1) (same 1 (omega arith) (omega arith))

    rule4-same : rule4 s ≡ rule4 t
    unfolding rule4
    rule4-same =
        ap₂ (λ (n : ℕ) (b : Bool). when (ltb n 4 || b) 2) (total-same s t long same)
        (le-ltb (length s) (total s) whole ∙ sym (le-ltb (length t) (total t) (omega (arith, total-same s t long same))))

    rule5-same : rule5 s ≡ rule5 t
    unfolding rule5
    rule5-same =
        ap₂ (λ (b c : ℕ). when (not (eqb b c)) (check_place s)) (same (check_place s) (omega arith) (omega arith))
        (ap crc8 (take-same s t (check_place s) (part-same s t long same 0 (check_place s) (omega arith)) (omega arith) (omega arith)))
        ∙ ap (λ (n : ℕ). when (not (eqb (byte t n) (crc8 (take n t)))) n) (check-same s t long same)

    rules-same : (k : Kinds) → Agree (rules k s) (rules k t)
    rules-same k =
        agree-more rule1-same (λ _.
        agree-more rule2-same (λ _.
        agree-more rule3-same (λ _.
        agree-more rule4-same (λ _.
        agree-more rule5-same (λ _.
        agree-more rule6-same (λ fit.
        agree-more rule7-same (λ _.
        agree-more (rule8-same k) (λ _.
        agree-more (rule9-same fit k) (λ _.
        agree-more (rule10-same fit k) (λ _.
        agree-more (rule11-same fit k) (λ _. tt)))))))))))

    -- every list gives both images one answer
    pub judged-same : (k : Kinds) → judged k s ≡ judged k t
    unfolding judged
    judged-same k =
        agree-answer (rules k s) (rules k t) (Ok (length (items s))) (Ok (length (items t))) (rules-same k)
        (λ _. ap (λ (l : List ℕ). Ok (length l)) (items-same s t long same))
