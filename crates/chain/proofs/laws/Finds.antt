-- How searches are put together: one test, a test of some item of a list, two searches one after the other, a search under a mark, over a range and along a
-- chain. Each finds the smallest place of what its parts find the smallest places of. Assumes nothing.
use Rattle.std.specs.Prelude.{ℕ, zero, suc, ◌≤◌, ◌<◌, Bool, true, false, cond, ◌⊎◌, ◌↔◌, ◌≡◌, refl, Some, None}
use Rattle.std.proofs.Common.{true≢false, inl, inr, sym, subst, ◌∙◌, arith}
use mathlib.Core.List.{List, [], ◌∷◌}
use Rattle.chain.specs.Chain.{chain, range}
use Rattle.chain.specs.Finds.{Among, Smallest, Nowhere, Finds}
use Rattle.chain.specs.First.{or_else, when, first, search}
use Rattle.chain.specs.Nth.{nth}
use Rattle.chain.specs.Found.{Found}
use Rattle.chain.proofs.laws.Below.{below}
use Rattle.chain.proofs.laws.Chain.{chain-more, chain-end, chain-ind}
use Rattle.chain.proofs.laws.First.{at-nothing}
use Rattle.chain.proofs.laws.Loops.{search-end, search-more}
use Rattle.chain.proofs.laws.Nth.{nth-all}
use Rattle.chain.proofs.laws.Places.{chain-within}
use Rattle.chain.proofs.laws.Ranges.{Least, range-least, range-none}

-- ---- the same places, said in two ways
pub finds-as : (B C : ℕ → Type 0) → ((z : ℕ) → B z → C z) → ((z : ℕ) → C z → B z) → (f : Found) → Finds B f → Finds C f
finds-as B C to back (Some p) h = (to p h.0, λ q c. h.1 q (back q c))
finds-as B C to back None h = λ q c. h q (back q c)

-- what is found is the smallest place with the property, and where nothing is, no place has it
pub found-is : (B : ℕ → Type 0) (f : Found) (p : ℕ) → Finds B f → f ≡ Some p → Smallest B p
found-is B f p h e = subst (Finds B) e h

pub found-none : (B : ℕ → Type 0) (f : Found) → Finds B f → f ≡ None → Nowhere B
found-none B f h e = subst (Finds B) e h

-- ---- a rule on the one number with a property
pub finds-one : (P : ℕ → Type 0) (p : ℕ) → ((q : ℕ) → P q ↔ (q ≡ p)) → (B : ℕ → ℕ → Type 0) (f : Found) → Finds (B p) f → Finds (λ z. (q : ℕ) × (P q × B q z)) f
finds-one P p is B f =
    finds-as (B p) (λ z. (q : ℕ) × (P q × B q z)) (λ z b. (p, ((is p).1 refl, b)))
    (λ z x. subst (λ (q : ℕ). B q z) ((is x.0).0 x.1.0) x.1.1) f

-- ---- one test of one place
pub finds-when : (B : ℕ → Type 0) (b : Bool) (q : ℕ) → (b ≡ true → B q) → ((z : ℕ) → B z → (z ≡ q) × (b ≡ true)) → Finds B (when b q)
finds-when B true q to back = (to refl, λ z h. omega (arith, (back z h).0))
finds-when B false q to back = λ z h. true≢false (sym (back z h).1)

-- ---- a search under a mark
pub finds-under : (B : ℕ → Type 0) (b : Bool) (f : Found) → (b ≡ true → Finds B f) → ((z : ℕ) → B z → b ≡ true) → Finds B (cond b f None)
finds-under B true f h marked = h refl
finds-under B false f h marked = λ z c. true≢false (sym (marked z c))

-- ---- two searches, the first for places that are not after those of the second
pub finds-both : (B C : ℕ → Type 0) (f g : Found) → Finds B f → Finds C g → ((y z : ℕ) → B y → C z → y ≤ z) → Finds (λ z. B z ⊎ C z) (or_else f g)
finds-both B C (Some p) g h k order =
    (inl h.0, λ q c. elim c [ inl b ↦ h.1 q b | inr d ↦ order p q h.0 d ])
finds-both B C None (Some p) h k order =
    (inr k.0, λ q c. elim c [ inl b ↦ absurd (h q b) | inr d ↦ k.1 q d ])
finds-both B C None None h k order = λ q c. elim c [ inl b ↦ h q b | inr d ↦ k q d ]

-- ---- a test of each item of a list, with one place for all of them: some item passes
pub finds-some : (test : ℕ → Bool) (q : ℕ) (l : List ℕ) → Finds (λ z. (z ≡ q) × ((x : ℕ) × (Among l x × (test x ≡ true)))) (first (λ x. when (test x) q) l)
unfolding first nth
finds-some test q [] = λ z h. at-nothing (sym h.1.1.0.1)
finds-some test q (x ∷ xs) =
    finds-as (λ z. Here z ⊎ Later z) (λ z. (z ≡ q) × ((y : ℕ) × (Among (x ∷ xs) y × (test y ≡ true)))) to back (or_else (when (test x) q) (first (λ y. when (test y) q) xs))
    (finds-both Here Later (when (test x) q) (first (λ y. when (test y) q) xs) (finds-when Here (test x) q (λ e. (refl, e)) (λ z h. h)) (finds-some test q xs)
    (λ y z h k. omega (arith, h.0, k.0)))
  where
    Here : ℕ → Type 0
    Here z = (z ≡ q) × (test x ≡ true)

    Later : ℕ → Type 0
    Later z = (z ≡ q) × ((y : ℕ) × (Among xs y × (test y ≡ true)))

    to : (z : ℕ) → Here z ⊎ Later z → (z ≡ q) × ((y : ℕ) × (Among (x ∷ xs) y × (test y ≡ true)))
    to z (inl h) = (h.0, (x, ((0, refl), h.1)))
    to z (inr h) = (h.0, (h.1.0, ((suc h.1.1.0.0, h.1.1.0.1), h.1.1.1)))

    which : (i y z : ℕ) → nth (x ∷ xs) i ≡ Some y → z ≡ q → test y ≡ true → Here z ⊎ Later z
    which zero y z e d h = inl (d, let same : x ≡ y = cc in subst (λ (n : ℕ). test n ≡ true) (sym same) h)
    which (suc i) y z e d h = inr (d, (y, ((i, e), h)))

    back : (z : ℕ) → (z ≡ q) × ((y : ℕ) × (Among (x ∷ xs) y × (test y ≡ true))) → Here z ⊎ Later z
    back z h = which h.1.1.0.0 h.1.0 z h.1.1.0.1 h.0 h.1.1.1

-- ---- over a range of numbers, each with a place that rises with it
pub finds-range : (test : ℕ → Bool) (place : ℕ → ℕ) → ((i j : ℕ) → i ≤ j → place i ≤ place j) → (a b : ℕ)
    → Finds (λ z. (i : ℕ) × ((a ≤ i) × (i < b) × (z ≡ place i) × (test i ≡ true))) (first (λ i. when (test i) (place i)) (range a b))
finds-range test place rises a b = go (first (λ i. when (test i) (place i)) (range a b)) refl
  where
    Has : ℕ → Type 0
    Has z = (i : ℕ) × ((a ≤ i) × (i < b) × (z ≡ place i) × (test i ≡ true))

    go : (f : Found) → first (λ i. when (test i) (place i)) (range a b) ≡ f → Finds Has f
    go (Some z) e =
        let l : Least test place a b z = range-least test place b a z e in (
          (l.number, (l.from, l.to, sym l.stands, l.passes)),
          λ q h.
              elim (below h.0 l.number) [
                | inl k ↦ absurd (true≢false (sym h.1.3 ∙ l.before h.0 h.1.0 k))
                | inr k ↦ omega (arith, rises l.number h.0 k, l.stands, h.1.2)
              ],
        )
    go None e = λ q h. true≢false (sym h.1.3 ∙ range-none test place b a e h.0 h.1.0 h.1.1)

-- ---- along a chain, where each item has its places from its start up to the next one's
module _ (rule : ℕ → Found) (next : ℕ → ℕ) (end : ℕ) (grows : (p : ℕ) → p < next p) (B : ℕ → ℕ → Type 0)
    (own : (p z : ℕ) → B p z → (p ≤ z) × (z ≤ next p)) where
  -- an item of the chain has the property at z
  abbrev pub Along : ℕ → ℕ → Type 0
  Along from z = (p : ℕ) × (Among (chain next end from) p × B p z)

  pub finds-along : (from : ℕ) → ((p : ℕ) → Among (chain next end from) p → Finds (B p) (rule p)) → Finds (Along from) (search rule next end from)
  unfolding nth
  finds-along =
      chain-ind next end grows (λ from. ((p : ℕ) → Among (chain next end from) p → Finds (B p) (rule p)) → Finds (Along from) (search rule next end from))
      stop step
    where
      stop : (from : ℕ) → end ≤ from → ((p : ℕ) → Among (chain next end from) p → Finds (B p) (rule p)) → Finds (Along from) (search rule next end from)
      stop from h each =
          rw (search-end rule next end grows from h)
          (λ z x. at-nothing (sym (subst (λ (l : List ℕ). nth l x.1.0.0 ≡ Some x.0) (chain-end next end grows from h) x.1.0.1)))

      step : (from : ℕ) → from < end
          → (((p : ℕ) → Among (chain next end (next from)) p → Finds (B p) (rule p)) → Finds (Along (next from)) (search rule next end (next from)))
          → ((p : ℕ) → Among (chain next end from) p → Finds (B p) (rule p)) → Finds (Along from) (search rule next end from)
      step from h more each =
          rw (search-more rule next end grows from h)
          (finds-as (λ z. B from z ⊎ Along (next from) z) (Along from) to back (or_else (rule from) (search rule next end (next from)))
          (finds-both (B from) (Along (next from)) (rule from) (search rule next end (next from)) (each from here) (more (λ p a. each p (further p a))) order))
        where
          here : Among (chain next end from) from
          here = (0, rw (chain-more next end grows from h))

          further : (p : ℕ) → Among (chain next end (next from)) p → Among (chain next end from) p
          further p a = (suc a.0, rw (chain-more next end grows from h) a.1)

          to : (z : ℕ) → B from z ⊎ Along (next from) z → Along from z
          to z (inl b) = (from, (here, b))
          to z (inr x) = (x.0, (further x.0 x.1.0, x.1.1))

          which : (i p z : ℕ) → nth (from ∷ chain next end (next from)) i ≡ Some p → B p z → B from z ⊎ Along (next from) z
          which zero p z e b = inl (let d : from ≡ p = cc in subst (λ (x : ℕ). B x z) (sym d) b)
          which (suc i) p z e b = inr (p, ((i, e), b))

          back : (z : ℕ) → Along from z → B from z ⊎ Along (next from) z
          back z x =
              which x.1.0.0 x.0 z (subst (λ (l : List ℕ). nth l x.1.0.0 ≡ Some x.0) (chain-more next end grows from h) x.1.0.1) x.1.1

          order : (y z : ℕ) → B from y → Along (next from) z → y ≤ z
          order y z b x =
              omega (
                arith,
                (own from y b).1,
                (own x.0 z x.1.1).0,
                (nth-all (λ q. (next from ≤ q) × (q < end)) (chain next end (next from)) x.1.0.0 x.0 (chain-within next end grows (next from)) x.1.0.1).0,
              )

-- ---- a test of each item of a chain, whose place is the item's start
pub finds-starts : (test : ℕ → Bool) (next : ℕ → ℕ) (end : ℕ) → ((p : ℕ) → p < next p) → (B : ℕ → Type 0) (from : ℕ)
    → ((z : ℕ) → Among (chain next end from) z → test z ≡ true → B z) → ((z : ℕ) → B z → Among (chain next end from) z × (test z ≡ true))
    → Finds B (search (λ p. when (test p) p) next end from)
finds-starts test next end grows B from to back =
    finds-as (λ z. (p : ℕ) × (Among (chain next end from) p × Here p z)) B (λ z h. subst B (sym h.1.1.0) (to h.0 h.1.0 h.1.1.1))
    (λ z b. let h = back z b in (z, (h.0, (refl, h.1)))) (search (λ p. when (test p) p) next end from)
    (finds-along (λ p. when (test p) p) next end grows Here (λ p z h. (omega (arith, h.0), omega (arith, h.0, grows p))) from
    (λ p a. finds-when (Here p) (test p) p (λ e. (refl, e)) (λ z h. h)))
  where
    Here : ℕ → ℕ → Type 0
    Here p z = (z ≡ p) × (test p ≡ true)
