-- The one walk finds what each rule finds along the items: one law on any rule (`gather`), used for each finding. And it carries a number above every
-- index: with as many strings no item breaks rule 10. Assumes nothing.
use Rattle.std.specs.Prelude.{ℕ, ◌+◌, ◌≤◌, ◌<◌, List, ◌≡◌, refl, leb, length, None}
use Rattle.std.proofs.Common.{inl, inr, sym, ap, subst, ◌∙◌}
use native.Mathlib.Omega.{arith}
use Rattle.std.proofs.lemmas.Bool.{lt-leb}
use Rattle.chain.specs.Chain.{chain}
use Rattle.chain.specs.First.{first, or_else, search}
use Rattle.chain.specs.Found.{Found}
use Rattle.chain.proofs.laws.Below.{below}
use Rattle.chain.proofs.laws.Gather.{gather, gathered}
use Rattle.chain.proofs.laws.Loops.{turn, done, count-turn, count-done}
use Rattle.chain.proofs.laws.Ranges.{none-range}
use Rattle.kinds.specs.declared.Kinds.{Kinds}
use Rattle.octets.specs.Bytes.{byte}
use Rattle.tiny_layout.specs.Layout.{check_place, next, items}
use Rattle.tiny_layout.specs.Pool.{known_of, pool_place}
use Rattle.tiny_layout.specs.Tags.{index_count}
use Rattle.tiny_layout.specs.declared.Shape.{Shape}
use Rattle.tiny_layout.proofs.laws.Layout.{next-grows}
use Rattle.tiny_rules.specs.Findings.{head_at, Above, Noted, Walked}
use Rattle.tiny_rules.specs.Rules.{passes, reserved, early, on_known, bad_index, bad_field, rule6, rule7, rule8, rule11}
use Rattle.tiny_rules.specs.declared.walk.Findings.{Findings}
use Rattle.tiny_rules.specs.declared.walk.Head.{Head}

-- ---- a number above bytes
module _ (s : List ℕ) (least from : ℕ) where
  pub above-start : Above s least from from least
  above-start = record { more = omega arith; bytes = λ q h l. absurd (omega arith) }

  -- one byte more
  pub above-on : (p r t : ℕ) → r ≤ t → byte s p < t → Above s least from p r → Above s least from (p + 1) t
  above-on p r t h k a =
      record {
        more = omega (arith, a.more);
        bytes =
            λ q i j. elim (below q p) [ inl m ↦ omega (arith, a.bytes q i m) | inr m ↦ subst (λ (x : ℕ). byte s x < t) (omega arith) k ];
      }

-- with as many strings as a number above the indexes of an item, they do not break rule 10
pub above-index : (s : List ℕ) (least : ℕ) (a : Shape) (start r n : ℕ) → Above s least start (start + index_count a) r → r ≤ n → bad_index s n a start ≡ None
unfolding bad_index
above-index s least a start r n w h =
    none-range (λ q. leb n (byte s q)) (λ q. q) (start + index_count a) start (λ q i j. lt-leb n (byte s q) (omega (arith, w.bytes q i j)))

-- ---- the walk
-- the head of the item at p is that of the item at the head's own place
pub seen-here : (s : List ℕ) (p : ℕ) (h : Head) → h ≡ head_at s p → h ≡ head_at s h.place
seen-here s p h e = subst (λ (g : Head). g ≡ head_at s g.place) (sym e) refl

-- what a rule finds along the items from p on, after what was found before p
abbrev pub along : List ℕ → (ℕ → Found) → Found → ℕ → Found
along s rule f p = or_else f (search rule (next s) (check_place s) p)

-- a walk that stands at p: each finding so far, or else what its rule finds from p on, is what the rule finds
pub record Along (k : Kinds) (s : List ℕ) (p : ℕ) (f : Findings) : Type 0 where
  pub passing : along s (passes s) f.passing p ≡ rule6 s
  pub reserved : along s (reserved s) f.reserved p ≡ rule7 s
  pub early : along s (early k s) f.early p ≡ rule8 k s
  pub pool : along s (known_of k s 0x01) f.pool p ≡ pool_place k s
  pub field : along s (on_known k s (bad_field s)) f.field p ≡ rule11 k s
  pub above : (n : ℕ) → f.above ≤ n → search (on_known k s (bad_index s n)) (next s) (check_place s) p ≡ first (on_known k s (bad_index s n)) (items s)
  pub count : f.count + length (chain (next s) (check_place s) p) ≡ length (items s)
  pub few : f.count ≤ p

module _ (s : List ℕ) where
  -- one finding, on from p to q, and at the end
  on : (rule : ℕ → Found) (f g : Found) (p q : ℕ) {r : Found} → p < check_place s → q ≡ next s p → g ≡ or_else f (rule p) → along s rule f p ≡ r → along s rule g q ≡ r
  on rule f g p q h n e inv =
      ap (λ (x : Found). along s rule x q) e ∙ gather rule (next s) (check_place s) (next-grows s) f p q h n inv

  ended : (rule : ℕ → Found) (f : Found) (p : ℕ) {r : Found} → check_place s ≤ p → along s rule f p ≡ r → f ≡ r
  ended rule f p h inv = gathered rule (next s) (check_place s) (next-grows s) f p h inv

  module _ (k : Kinds) where
    pub along-start : (f : Findings) → f.passing ≡ None → f.reserved ≡ None → f.early ≡ None → f.pool ≡ None → f.field ≡ None → f.count ≡ 0 → Along k s 3 f
    unfolding rule6 rule7 rule8 rule11
    along-start f a b c d e n =
        record { passing = rw a; reserved = rw b; early = rw c; pool = rw d; field = rw e; above = λ m l. refl; count = rw n (omega arith); few = omega arith }

    pub along-turn : (f g : Findings) (p q : ℕ) → p < check_place s → q ≡ next s p → Noted k s p f g → Along k s p f → Along k s q g
    along-turn f g p q h n t a =
        record {
          passing = on (passes s) f.passing g.passing p q h n t.passing a.passing;
          reserved = on (reserved s) f.reserved g.reserved p q h n t.reserved a.reserved;
          early = on (early k s) f.early g.early p q h n t.early a.early;
          pool = on (known_of k s 0x01) f.pool g.pool p q h n t.pool a.pool;
          field = on (on_known k s (bad_field s)) f.field g.field p q h n t.field a.field;
          above =
              λ m l. turn (on_known k s (bad_index s m)) (next s) (check_place s) (next-grows s) p q h (t.above.1 m l) n (a.above m (omega (arith, t.above.0)));
          count = rw t.count (count-turn (next s) (check_place s) (next-grows s) f.count p q h n a.count);
          few = omega (arith, next-grows s p, t.count, a.few);
        }

    pub along-done : (f : Findings) (p : ℕ) → check_place s ≤ p → Along k s p f → Walked k s f
    along-done f p h a =
        record {
          passing = ended (passes s) f.passing p h a.passing;
          reserved = ended (reserved s) f.reserved p h a.reserved;
          early = ended (early k s) f.early p h a.early;
          pool = ended (known_of k s 0x01) f.pool p h a.pool;
          field = ended (on_known k s (bad_field s)) f.field p h a.field;
          above = λ m l. sym (done (on_known k s (bad_index s m)) (next s) (check_place s) (next-grows s) p h (a.above m l));
          count = count-done (next s) (check_place s) (next-grows s) f.count p h a.count;
        }
