-- The walks find what each rule finds along the structures: one law on any rule (`gather`), used for each finding. Assumes nothing.
use Rattle.std.specs.Prelude.{ℕ, ◌+◌, ◌%◌, ◌≤◌, ◌<◌, Bool, true, false, cond, List, ◌≡◌, refl, length, is_some, Some, None}
use Rattle.std.proofs.Common.{sym, ◌∙◌, subst, arith, lt-ltb, le-ltb}
use Rattle.std.proofs.Math.Path.{ap}
use Rattle.board_fields.specs.Inside.{bad_inside}
use Rattle.board_fields.specs.Reserved.{reserved_used}
use Rattle.board_layout.specs.Layout.{signature_at, length_at, shape_at, struct_len, end_at, round16, covers, next, structures, map_at, board_at, later_at}
use Rattle.board_layout.specs.Shapes.{shape_of, knows}
use Rattle.board_layout.specs.declared.Head.{Head}
use Rattle.board_layout.specs.declared.Shape.{Shape}
use Rattle.board_layout.proofs.laws.Layout.{next-grows}
use Rattle.board_rules.specs.Findings.{along, Seen, order_from, later_order, is_known, rest_after, noted, Walked, looked_into, Looked}
use Rattle.board_rules.specs.Rules.{misplaced, gap_used, out_of_order, is_prom_sig, prom_sig_at, on_known, rule23, rule24, rule32, rule33}
use Rattle.board_rules.specs.declared.known.Contents.{Contents}
use Rattle.board_rules.specs.declared.walk.Findings.{Findings}
use Rattle.chain.specs.Chain.{chain}
use Rattle.chain.specs.First.{or_else, when}
use Rattle.chain.specs.Found.{Found}
use Rattle.chain.proofs.laws.All.{all-of}
use Rattle.chain.proofs.laws.First.{at-nothing, or_else-nothing, first-weaker}
use Rattle.chain.proofs.laws.Gather.{gather, gathered, skip, search-from}
use Rattle.chain.proofs.laws.Loops.{search-end, count-turn, count-done}
use Rattle.kinds.specs.declared.Kinds.{Kinds}
use Rattle.octets.specs.Bytes.{byte, Octets}
use Rattle.octets.proofs.laws.Parts.{le64-first}

-- ---- what the head says is what the definitions read
module _ {s : List ℕ} {end p : ℕ} {h : Head} (seen : Seen s end p h) where
  pub seen-signature : h.signature ≡ signature_at s p
  seen-signature = ap (λ (x : Head). x.signature) seen.here

  pub seen-mark : Octets s → h.signature % 256 ≡ byte s p
  seen-mark octets = ap (λ (n : ℕ). n % 256) seen-signature ∙ le64-first s octets p

  pub seen-length : h.length ≡ length_at s p
  seen-length = ap (λ (x : Head). x.length) seen.here

  pub seen-shape : shape_of h.signature h.major ≡ shape_at s p
  unfolding shape_at
  seen-shape = ap (λ (x : Head). shape_of x.signature x.major) seen.here

  pub seen-finish : p + h.length ≡ end_at s p
  unfolding end_at
  seen-finish = ap (λ (n : ℕ). p + n) seen-length

  pub seen-after : round16 (p + covers h.length) ≡ next s p
  unfolding next
  seen-after = ap (λ (n : ℕ). round16 (p + covers n)) seen-length

-- what is found is found at a place
some-place : (f : Found) → is_some f ≡ true → (q : ℕ) × (f ≡ Some q)
some-place (Some q) b = (q, refl)
some-place None b = cc

-- ---- the first walk
-- a walk that stands at p: each finding so far, or else what its rule finds from p on, is what the rule finds; and no structure from `rest` up to p is known
pub record Along (k : Kinds) (s : List ℕ) (p : ℕ) (f : Findings) : Type 0 where
  pub r23 : or_else f.misplaced (along s (misplaced s) p) ≡ rule23 s
  pub r24 : or_else f.gap (along s (gap_used s) p) ≡ rule24 s
  pub r25 : or_else f.order (along s (order_from (later_at s) s) p) ≡ later_order s
  pub sig : or_else f.signature (along s (is_prom_sig s) p) ≡ prom_sig_at s
  pub unknown : along s (is_known k s) f.rest ≡ along s (is_known k s) p
  pub all : f.count + length (chain (next s) (struct_len s) p) ≡ length (structures s)
  pub few : f.count ≤ p

module _ (s : List ℕ) where
  -- rule 25 of those from `later` on, asked of all structures, finds what it finds from there on
  order-later : along s (order_from (later_at s) s) 0 ≡ later_order s
  unfolding order_from map_at board_at later_at
  order-later =
      let one = next s 0 in
      let two = next s one in
      let later = next s two in
      let a : 0 < later = omega (arith, next-grows s 0, next-grows s one, next-grows s two) in
      let b : one < later = omega (arith, next-grows s one, next-grows s two) in
      skip (order_from later s) (next s) (struct_len s) (next-grows s) 0 (rw (lt-ltb 0 later a))
      ∙ skip (order_from later s) (next s) (struct_len s) (next-grows s) one (rw (lt-ltb one later b))
      ∙ skip (order_from later s) (next s) (struct_len s) (next-grows s) two (rw (lt-ltb two later (next-grows s two)))
      ∙ search-from (order_from later s) (out_of_order s) (next s) (struct_len s) (next-grows s) later (λ p l. rw (le-ltb p later l)) later (omega arith)

  module _ (k : Kinds) where
    -- the structures that are not known begin after the one at p, or before it if it is not known either
    rest-turn : (p rest : ℕ) → along s (is_known k s) rest ≡ along s (is_known k s) p → along s (is_known k s) (rest_after k s p rest) ≡ along s (is_known k s) (next s p)
    rest-turn p rest e = go (knows k (shape_at s p)) refl
      where
        go : (b : Bool) → knows k (shape_at s p) ≡ b → along s (is_known k s) (cond b (next s p) rest) ≡ along s (is_known k s) (next s p)
        go true known = refl
        go false known = e ∙ skip (is_known k s) (next s) (struct_len s) (next-grows s) p (ap (λ (b : Bool). when b p) known)

    pub along-start :
        (f : Findings) →
        f.misplaced ≡ None → f.gap ≡ None → f.order ≡ None → f.signature ≡ None → f.rest ≡ 0 → f.count ≡ 0 → Along k s 0 f
    unfolding rule23 rule24 prom_sig_at
    along-start f a b c d e n =
        record {
          r23 = rw a;
          r24 = rw b;
          r25 = rw c order-later;
          sig = rw d;
          unknown = rw e;
          all = rw n (omega arith);
          few = omega arith;
        }

    turn : (f : Findings) (p q : ℕ) → p < struct_len s → q ≡ next s p → Along k s p f → Along k s q (noted k s (later_at s) p f)
    turn f p q h n a =
        record {
          r23 = gather (misplaced s) (next s) (struct_len s) (next-grows s) f.misplaced p q h n a.r23;
          r24 = gather (gap_used s) (next s) (struct_len s) (next-grows s) f.gap p q h n a.r24;
          r25 = gather (order_from (later_at s) s) (next s) (struct_len s) (next-grows s) f.order p q h n a.r25;
          sig = gather (is_prom_sig s) (next s) (struct_len s) (next-grows s) f.signature p q h n a.sig;
          unknown = rw n (rest-turn p f.rest a.unknown);
          all = count-turn (next s) (struct_len s) (next-grows s) f.count p q h n a.all;
          few = omega (arith, next-grows s p, n, a.few);
        }

    -- `went` is what is found with the structure at p, after f was found
    pub along-turn :
        {end later p q : ℕ} {f went : Findings} →
        later ≡ later_at s → end ≡ struct_len s → p < end → went ≡ noted k s later p f → q ≡ next s p → Along k s p f → Along k s q went
    along-turn {end} {later} {p} {q} {f} {went} l all h e n a = subst (Along k s q) (sym (rw l at e)) (turn f p q (rw all at h) n a)

    pub along-done : (f : Findings) (p : ℕ) → struct_len s ≤ p → Along k s p f → Walked k s f
    along-done f p h a =
        record {
          misplaced = gathered (misplaced s) (next s) (struct_len s) (next-grows s) f.misplaced p h a.r23;
          finds =
              λ _.
              record {
                gap = gathered (gap_used s) (next s) (struct_len s) (next-grows s) f.gap p h a.r24;
                order = gathered (order_from (later_at s) s) (next s) (struct_len s) (next-grows s) f.order p h a.r25;
                signature = gathered (is_prom_sig s) (next s) (struct_len s) (next-grows s) f.signature p h a.sig;
                rest = a.unknown ∙ search-end (is_known k s) (next s) (struct_len s) (next-grows s) p h;
                count = count-done (next s) (struct_len s) (next-grows s) f.count p h a.all;
              };
        }

    -- a structure that breaks rule 23 ends the walk
    pub along-broken : (f : Findings) (p : ℕ) → is_some f.misplaced ≡ true → Along k s p f → Walked k s f
    along-broken f p b a = let (q, e) = some-place f.misplaced b in
        let there : Some q ≡ rule23 s = rw e at a.r23 in
        record { misplaced = e ∙ there; finds = λ none. absurd (at-nothing (there ∙ none)) }

-- ---- the second walk
-- a walk that stands at p, as before
pub record Into (k : Kinds) (s : List ℕ) (p : ℕ) (f : Contents) : Type 0 where
  pub r32 : or_else f.reserved (along s (on_known k s (reserved_used s)) p) ≡ rule32 k s
  pub r33 : or_else f.inside (along s (on_known k s (bad_inside s)) p) ≡ rule33 k s

module _ (k : Kinds) (s : List ℕ) where
  -- what is not known is not looked into
  unknown-nothing : (rule : ℕ → Shape → Found) (p : ℕ) → knows k (shape_at s p) ≡ false → on_known k s rule p ≡ None
  unknown-nothing rule p e = ap (λ (b : Bool). cond b (rule p (shape_at s p)) None) e

  -- where no structure from p on is known, a rule on the known ones finds nothing from there on
  none-known : (rule : ℕ → Shape → Found) (p : ℕ) → along s (is_known k s) p ≡ None → along s (on_known k s rule) p ≡ None
  none-known rule p e =
      let from = chain (next s) (struct_len s) p in
      first-weaker (is_known k s) (on_known k s rule) from (all-of _ (λ x. go x (knows k (shape_at s x)) refl) from) e
    where
      go : (x : ℕ) (b : Bool) → knows k (shape_at s x) ≡ b → is_known k s x ≡ None → on_known k s rule x ≡ None
      go x true e n = absurd (at-nothing (rw e at n))
      go x false e n = unknown-nothing rule x e

  pub into-start : (f : Contents) → f.reserved ≡ None → f.inside ≡ None → Into k s 0 f
  unfolding rule32 rule33
  into-start f a b = record { r32 = rw a; r33 = rw b }

  step : (f : Contents) (p q : ℕ) → p < struct_len s → q ≡ next s p → Into k s p f → Into k s q (looked_into k s p f)
  step f p q h n a =
      record {
        r32 = gather (on_known k s (reserved_used s)) (next s) (struct_len s) (next-grows s) f.reserved p q h n a.r32;
        r33 = gather (on_known k s (bad_inside s)) (next s) (struct_len s) (next-grows s) f.inside p q h n a.r33;
      }

  -- `went` is what is found with the structure at p, after f was found
  pub into-turn :
      {end p q : ℕ} {f went : Contents} →
      end ≡ struct_len s → p < end → went ≡ looked_into k s p f → q ≡ next s p → Into k s p f → Into k s q went
  into-turn {end} {p} {q} {f} {went} all h e n a = subst (Into k s q) (sym e) (step f p q (rw all at h) n a)

  -- the walk ends where no structure is known any more, as it does past the last one, and where rule 32 is broken
  pub into-rest : (f : Contents) (p : ℕ) → along s (is_known k s) p ≡ None → Into k s p f → Looked k s f
  into-rest f p e a =
      record {
        reserved = sym (or_else-nothing f.reserved) ∙ ap (or_else f.reserved) (sym (none-known (reserved_used s) p e)) ∙ a.r32;
        inside = λ _. sym (or_else-nothing f.inside) ∙ ap (or_else f.inside) (sym (none-known (bad_inside s) p e)) ∙ a.r33;
      }

  pub into-done : (f : Contents) (p : ℕ) → struct_len s ≤ p → Into k s p f → Looked k s f
  into-done f p h a = into-rest f p (search-end (is_known k s) (next s) (struct_len s) (next-grows s) p h) a

  pub into-broken : (f : Contents) (p : ℕ) → is_some f.reserved ≡ true → Into k s p f → Looked k s f
  into-broken f p b a = let (q, e) = some-place f.reserved b in
      let there : Some q ≡ rule32 k s = rw e at a.r32 in
      record { reserved = e ∙ there; inside = λ none. absurd (at-nothing (there ∙ none)) }
