-- A test over a range of numbers: the least number that passes it, or that none does. Assumes nothing.
use Rattle.std.specs.Prelude.{ℕ, ◌≤◌, ◌<◌, Bool, true, false, ◌≡◌, refl, Some, None}
use Rattle.std.proofs.Common.{inl, inr, sym, ap, subst, ◌∙◌, arith}
use Rattle.chain.specs.Chain.{range, ahead}
use Rattle.chain.specs.First.{or_else, when, first}
use Rattle.chain.specs.Found.{Found}
use Rattle.chain.proofs.laws.Below.{below}
use Rattle.chain.proofs.laws.Chain.{chain-ind}
use Rattle.chain.proofs.laws.First.{at-nothing, or_else-left, or_else-right, when-nothing}
use Rattle.chain.proofs.laws.Loops.{one-grows, search-end, search-more}

-- `number` is the least from a up to b that passes the test, and z its place
pub record Least (test : ℕ → Bool) (place : ℕ → ℕ) (a b z : ℕ) : Type 0 where
  pub number : ℕ
  pub from : a ≤ number
  pub to : number < b
  pub passes : test number ≡ true
  pub stands : place number ≡ z
  pub before : (q : ℕ) → a ≤ q → q < number → test q ≡ false

module _ (test : ℕ → Bool) (place : ℕ → ℕ) (b : ℕ) where
  abbrev rule : ℕ → Found
  rule q = when (test q) (place q)

  least-here : (a z : ℕ) → a < b → test a ≡ true → place a ≡ z → Least test place a b z
  least-here a z h t e =
      record { number = a; from = omega arith; to = h; passes = t; stands = e; before = λ q i j. absurd (omega arith) }

  least-later : (a z : ℕ) → test a ≡ false → Least test place (ahead 1 a) b z → Least test place a b z
  least-later a z t l =
      record {
        number = l.number;
        from = omega (arith, l.from);
        to = l.to;
        passes = l.passes;
        stands = l.stands;
        before =
            λ q i j. elim (below a q) [ inl k ↦ l.before q (omega arith) j | inr k ↦ subst (λ (x : ℕ). test x ≡ false) (omega arith) t ];
      }

  -- what is found is the least
  pub range-least : (a z : ℕ) → first rule (range a b) ≡ Some z → Least test place a b z
  range-least =
      chain-ind (ahead 1) b one-grows (λ a. (z : ℕ) → first rule (range a b) ≡ Some z → Least test place a b z)
      (λ a h z e. absurd (at-nothing (sym e ∙ search-end rule (ahead 1) b one-grows a h)))
      (λ a h ih z e. go a h z (ih z) (test a) refl (sym (search-more rule (ahead 1) b one-grows a h) ∙ e))
    where
      go : (a : ℕ) → a < b → (z : ℕ) → (first rule (range (ahead 1 a) b) ≡ Some z → Least test place (ahead 1 a) b z) → (t : Bool) → test a ≡ t
          → or_else (when t (place a)) (first rule (range (ahead 1 a) b)) ≡ Some z → Least test place a b z
      go a h z ih true t e = least-here a z h t (cc)
      go a h z ih false t e = least-later a z t (ih e)

  -- and the least is what is found
  pub least-range : (a z : ℕ) → Least test place a b z → first rule (range a b) ≡ Some z
  least-range =
      chain-ind (ahead 1) b one-grows (λ a. (z : ℕ) → Least test place a b z → first rule (range a b) ≡ Some z)
      (λ a h z l. absurd (omega (arith, l.from, l.to)))
      (λ a h ih z l.
      search-more rule (ahead 1) b one-grows a h
      ∙ elim (below a l.number) [
        | inl k ↦ told a false (l.before a (omega arith) k) ∙ ih z (least-after a z l k)
        | inr k ↦ told a true (subst (λ (x : ℕ). test x ≡ true) (omega (arith, l.from)) l.passes)
            ∙ ap Some (subst (λ (x : ℕ). place x ≡ z) (omega (arith, l.from)) l.stands)
      ])
    where
      told : (a : ℕ) (t : Bool) → test a ≡ t → or_else (rule a) (first rule (range (ahead 1 a) b)) ≡ or_else (when t (place a)) (first rule (range (ahead 1 a) b))
      told a t e = ap (λ (u : Bool). or_else (when u (place a)) (first rule (range (ahead 1 a) b))) e

      least-after : (a z : ℕ) (l : Least test place a b z) → a < l.number → Least test place (ahead 1 a) b z
      least-after a z l k =
          record {
            number = l.number;
            from = omega arith;
            to = l.to;
            passes = l.passes;
            stands = l.stands;
            before = λ q i j. l.before q (omega arith) j;
          }

  -- nothing is found exactly where no number passes
  pub range-none : (a : ℕ) → first rule (range a b) ≡ None → (q : ℕ) → a ≤ q → q < b → test q ≡ false
  range-none =
      chain-ind (ahead 1) b one-grows (λ a. first rule (range a b) ≡ None → (q : ℕ) → a ≤ q → q < b → test q ≡ false)
      (λ a h e q i j. absurd (omega arith))
      (λ a h ih e q i j.
      let d : or_else (rule a) (first rule (range (ahead 1 a) b)) ≡ None = sym (search-more rule (ahead 1) b one-grows a h) ∙ e in
      elim (below a q) [
        | inl k ↦ ih (or_else-right (rule a) (first rule (range (ahead 1 a) b)) d) q (omega arith) j
        | inr k ↦ subst (λ (x : ℕ). test x ≡ false) (omega arith)
            (when-nothing (test a) (place a) (or_else-left (rule a) (first rule (range (ahead 1 a) b)) d))
      ])

  pub none-range : (a : ℕ) → ((q : ℕ) → a ≤ q → q < b → test q ≡ false) → first rule (range a b) ≡ None
  none-range =
      chain-ind (ahead 1) b one-grows (λ a. ((q : ℕ) → a ≤ q → q < b → test q ≡ false) → first rule (range a b) ≡ None)
      (λ a h f. search-end rule (ahead 1) b one-grows a h)
      (λ a h ih f.
      search-more rule (ahead 1) b one-grows a h
      ∙ subst (λ (t : Bool). or_else (when t (place a)) (first rule (range (ahead 1 a) b)) ≡ None) (sym (f a (omega arith) h))
      (ih (λ q i j. f q (omega arith) j)))
