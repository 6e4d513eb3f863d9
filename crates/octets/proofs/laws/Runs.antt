-- What a comparison of two runs tells, and a search for a byte that is not zero. Assumes nothing.
use Rattle.std.specs.Prelude.{ℕ, ◌+◌, ◌-◌, ◌≤◌, ◌<◌, true, ◌&&◌, ◌↔◌, ◌≡◌, refl, eqb, is_some, Some, None, Bool, false}
use Rattle.std.proofs.Math.Bool.{not}
use mathlib.Core.List.{List, ◌++◌}
use Rattle.std.proofs.Common.{inl, inr, ap₂, ◌∙◌, arith}
use Rattle.std.proofs.Math.Path.{sym, ap}
use borrow.Author.Tests.{eq-eqb, eqb-true, not-false}
use Rattle.chain.specs.Finds.{Finds}
use Rattle.chain.specs.Found.{Found}
use Rattle.chain.proofs.laws.Below.{below}
use Rattle.chain.proofs.laws.Fill.{tab-agree}
use Rattle.chain.proofs.laws.Finds.{finds-as, finds-range}
use Rattle.chain.proofs.laws.Means.{Means, means-same, means-equal, means-other, means-both}
use Rattle.chain.proofs.laws.Ranges.{Least, range-least, range-none, none-range}
use Rattle.octets.specs.Bytes.{byte, Octets, run, little, le64}
use Rattle.octets.specs.Runs.{apart, difference, is_nothing, same_run, is_set, nonzero}
use Rattle.octets.proofs.laws.Bytes.{length-run, byte-run, run-octets, run-append, le64-zero}
use Rattle.octets.proofs.laws.Spelled.{little-injective}

-- the library's test that something was found, and the opposite one
pub nothing-where-not-some : (f : Found) (b : Bool) → is_some f ≡ not b → b ≡ is_nothing f
nothing-where-not-some (Some i) true e = cc
nothing-where-not-some (Some i) false e = refl
nothing-where-not-some None true e = refl
nothing-where-not-some None false e = cc

pub is-nothing : (f : Found) → is_nothing f ≡ true → f ≡ None
is-nothing (Some i) e = cc
is-nothing None e = refl

module _ (a : List ℕ) (p : ℕ) (b : List ℕ) (q n : ℕ) where
  -- two runs are the same exactly where no offset differs
  pub same-is-equal : same_run a p b q n ≡ true → run a p n ≡ run b q n
  unfolding same_run difference
  same-is-equal e =
      tab-agree (λ i. byte a (p + i)) (λ i. byte b (q + i)) n
      (λ i h. eqb-true _ _ (not-false _ (range-none (apart a p b q) (λ j. j) n 0 (is-nothing (difference a p b q n) e) i (omega arith) h)))

  pub equal-is-same : run a p n ≡ run b q n → same_run a p b q n ≡ true
  unfolding same_run difference
  equal-is-same e =
      ap is_nothing
      (none-range (apart a p b q) (λ j. j) n 0
      (λ i k h. ap not (eq-eqb _ _ (sym (byte-run a p n i h) ∙ ap (λ (l : List ℕ). byte l i) e ∙ byte-run b q n i h))))

  pub means-same-run : Means (same_run a p b q n) (run a p n ≡ run b q n)
  means-same-run = (same-is-equal, equal-is-same)

-- ---- sixteen bytes as two numbers of eight
module _ (a : List ℕ) (p : ℕ) (b : List ℕ) (q : ℕ) (good : Octets a) (fine : Octets b) where
  -- numbers of eight bytes are equal exactly where the bytes are
  eight-equal : (x y : ℕ) → (le64 a x ≡ le64 b y) ↔ (run a x 8 ≡ run b y 8)
  unfolding le64
  eight-equal x y = (
    little-injective (run a x 8) (run b y 8) (run-octets a x 8 good) (run-octets b y 8 fine) (length-run a x 8 ∙ sym (length-run b y 8)),
    ap little,
  )

  -- and sixteen bytes where both their halves are
  halves-equal : ((run a p 8 ≡ run b q 8) × (run a (p + 8) 8 ≡ run b (q + 8) 8)) ↔ (run a p 16 ≡ run b q 16)
  halves-equal = (
    λ h. run-append a p 8 8 ∙ ap₂ (λ (l m : List ℕ). l ++ m) h.0 h.1 ∙ sym (run-append b q 8 8),
    λ e.
        let each : (i : ℕ) → i < 16 → byte a (p + i) ≡ byte b (q + i) =
        λ i h. sym (byte-run a p 16 i h) ∙ ap (λ (l : List ℕ). byte l i) e ∙ byte-run b q 16 i h in (
          tab-agree (λ i. byte a (p + i)) (λ i. byte b (q + i)) 8 (λ i h. each i (omega arith)),
          tab-agree (λ i. byte a (p + 8 + i)) (λ i. byte b (q + 8 + i)) 8
              (λ i h. ap (byte a) (omega arith) ∙ each (8 + i) (omega arith) ∙ ap (byte b) (omega arith)),
        ),
  )

  pub same-by-halves : same_run a p b q 16 ≡ eqb (le64 a p) (le64 b q) && eqb (le64 a (p + 8)) (le64 b (q + 8))
  same-by-halves =
      means-same (same_run a p b q 16) (eqb (le64 a p) (le64 b q) && eqb (le64 a (p + 8)) (le64 b (q + 8))) (means-same-run a p b q 16) (
        λ e. let h = both.0 e in halves-equal.0 ((eight-equal p q).0 h.0, (eight-equal (p + 8) (q + 8)).0 h.1),
        λ e. let h = halves-equal.1 e in both.1 ((eight-equal p q).1 h.0, (eight-equal (p + 8) (q + 8)).1 h.1),
      )
    where
      both : Means (eqb (le64 a p) (le64 b q) && eqb (le64 a (p + 8)) (le64 b (q + 8))) ((le64 a p ≡ le64 b q) × (le64 a (p + 8) ≡ le64 b (q + 8)))
      both = means-both (means-equal (le64 a p) (le64 b q)) (means-equal (le64 a (p + 8)) (le64 b (q + 8)))

module _ (s : List ℕ) (p from to : ℕ) where
  pub nonzero-least : (q : ℕ) → nonzero s p from to ≡ Some q → Least (is_set s p) (λ i. p + i) from to q
  unfolding nonzero
  nonzero-least q e = range-least (is_set s p) (λ i. p + i) to from q e

  -- it finds the first byte that is not zero, of those from p + from up to p + to
  pub finds-nonzero : Finds (λ z. (p + from ≤ z) × (z < p + to) × (byte s z ≡ 0 → ⊥)) (nonzero s p from to)
  unfolding nonzero
  finds-nonzero =
      finds-as (λ z. (i : ℕ) × ((from ≤ i) × (i < to) × (z ≡ p + i) × (is_set s p i ≡ true))) (λ z. (p + from ≤ z) × (z < p + to) × (byte s z ≡ 0 → ⊥))
      (λ z h. (
        omega (arith, h.1),
        omega (arith, h.1),
        λ e. (means-other (byte s (p + h.0)) 0).0 h.1.3 (sym (ap (byte s) h.1.2) ∙ e),
      ))
      (λ z h.
      let i : z ≡ p + (z - p) = omega (arith, h.0) in
      (z - p, (omega (arith, h.0), omega (arith, h.1, h.0), i, (means-other (byte s (p + (z - p))) 0).1 (λ e. h.2 (ap (byte s) i ∙ e)))))
      (nonzero s p from to) (finds-range (is_set s p) (λ i. p + i) (λ i j h. omega arith) from to)

  pub nonzero-none : nonzero s p from to ≡ None → (i : ℕ) → from ≤ i → i < to → byte s (p + i) ≡ 0
  unfolding nonzero
  nonzero-none e i h k = eqb-true _ _ (not-false _ (range-none (is_set s p) (λ j. p + j) to from e i h k))

  pub none-nonzero : ((i : ℕ) → from ≤ i → i < to → byte s (p + i) ≡ 0) → nonzero s p from to ≡ None
  unfolding nonzero
  none-nonzero f = none-range (is_set s p) (λ j. p + j) to from (λ i h k. ap not (eq-eqb _ _ (f i h k)))

  -- eight to sixteen bytes are zero where the first eight and the last eight are
  pub none-by-ends : from + 8 ≤ to → to ≤ from + 16 → le64 s (p + from) ≡ 0 → le64 s (p + to - 8) ≡ 0 → nonzero s p from to ≡ None
  none-by-ends h k a b =
      none-nonzero
      (λ i l m.
      elim (below i (from + 8)) [
        | inl n ↦ ap (byte s) (omega arith) ∙ le64-zero s (p + from) a (i - from) (omega arith)
        | inr n ↦ ap (byte s) (omega arith) ∙ le64-zero s (p + to - 8) b (i + 8 - to) (omega arith)
      ])
