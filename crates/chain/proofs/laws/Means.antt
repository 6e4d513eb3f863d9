-- What a test means: it is set exactly where something is true, said without the test. Assumes nothing.
use Rattle.std.specs.Prelude.{ℕ, ◌≤◌, ◌<◌, Bool, true, false, not, ◌&&◌, ◌||◌, ◌⊎◌, ◌↔◌, ◌≡◌, refl, eqb, ltb, leb}
use Rattle.std.proofs.Math.Bool.{and-eq-true_iff}
use Rattle.std.proofs.Common.{true≢false, inl, inr, sym, ap, eqb-true, eq-eqb, ltb-true, lt-ltb, leb-true, le-leb, leb-false}
use Rattle.std.proofs.lemmas.Bool.{lt-leb, not-true}

-- b is set exactly where P is true
abbrev pub Means : Bool → Type 0 → Type 0
Means b P = (b ≡ true) ↔ P

-- two tests that mean the same are one
pub means-same : {P : Type 0} (a b : Bool) → Means a P → Means b P → a ≡ b
means-same true true m n = refl
means-same true false m n = sym (n.1 (m.0 refl))
means-same false true m n = m.1 (n.0 refl)
means-same false false m n = refl

-- ---- of two numbers
pub means-equal : (a b : ℕ) → Means (eqb a b) (a ≡ b)
means-equal a b = (eqb-true a b, eq-eqb a b)

pub means-under : (a b : ℕ) → Means (ltb a b) (a < b)
means-under a b = (ltb-true a b, lt-ltb a b)

pub means-most : (a b : ℕ) → Means (leb a b) (a ≤ b)
means-most a b = (leb-true a b, le-leb a b)

-- "at most a" fails
pub means-above : (a b : ℕ) → Means (not (leb b a)) (a < b)
means-above a b = (λ e. leb-false b a (not-true (leb b a) e), λ h. ap not (lt-leb b a h))

-- ---- of other tests
pub means-false : (b : Bool) → Means (not b) (b ≡ false)
means-false b = (not-true b, ap not)

pub means-not : {b : Bool} {P : Type 0} → Means b P → Means (not b) (P → ⊥)
means-not {b} {P} m = (λ e p. go b e (m.1 p), λ h. set b (λ e. h (m.0 e)))
  where
    go : (t : Bool) → not t ≡ true → t ≡ true → ⊥
    go true e d = true≢false (sym e)
    go false e d = true≢false (sym d)

    set : (t : Bool) → (t ≡ true → ⊥) → not t ≡ true
    set true h = absurd (h refl)
    set false h = refl

pub means-other : (a b : ℕ) → Means (not (eqb a b)) (a ≡ b → ⊥)
means-other a b = means-not (means-equal a b)

pub means-both : {a b : Bool} {P Q : Type 0} → Means a P → Means b Q → Means (a && b) (P × Q)
means-both {a} {b} m n =
    (λ e. let t = (and-eq-true_iff a b).0 e in (m.0 t.0, n.0 t.1), λ h. (and-eq-true_iff a b).1 (m.1 h.0, n.1 h.1))

pub means-either : {a b : Bool} {P Q : Type 0} → Means a P → Means b Q → Means (a || b) (P ⊎ Q)
means-either {a} {b} {P} {Q} m n = (to a m, back a m)
  where
    to : (t : Bool) → Means t P → t || b ≡ true → P ⊎ Q
    to true k e = inl (k.0 refl)
    to false k e = inr (n.0 e)

    back : (t : Bool) → Means t P → P ⊎ Q → t || b ≡ true
    back true k h = refl
    back false k (inl p) = absurd (true≢false (sym (k.1 p)))
    back false k (inr q) = n.1 q

-- two tests do not both hold: one of them fails
pub means-fails : (a b : Bool) → Means (not (a && b)) ((a ≡ false) ⊎ (b ≡ false))
means-fails true b = (λ e. inr (not-true b e), λ h. elim h [ inl e ↦ cc | inr e ↦ ap not e ])
means-fails false b = (λ e. inl refl, λ h. refl)
