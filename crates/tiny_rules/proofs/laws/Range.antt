-- What the test of a major says in numbers. (Those of a minor and of a batch are single comparisons.) Assumes nothing.
use Rattle.std.specs.Prelude.{ℕ, ◌≤◌, Bool, true, false, ◌&&◌, ◌||◌, ◌⊎◌, ◌↔◌, ◌≡◌, refl, leb}
use Rattle.std.proofs.Math.Bool.{and-eq-true_iff}
use Rattle.std.proofs.Common.{inl, inr, ap, ◌∙◌, arith, leb-true, le-leb}
use Rattle.std.proofs.lemmas.Bool.{lt-leb}
use Rattle.tiny_rules.specs.Rules.{is_major}

-- a major is in range exactly from 00h to 63h and from 80h to 99h
pub major-range : (m : ℕ) → (is_major m ≡ true) ↔ ((m ≤ 0x63) ⊎ ((0x80 ≤ m) × (m ≤ 0x99)))
unfolding is_major
major-range m = (to (leb m 0x63) refl, from)
  where
    to : (b : Bool) → leb m 0x63 ≡ b → b || leb 0x80 m && leb m 0x99 ≡ true → (m ≤ 0x63) ⊎ ((0x80 ≤ m) × (m ≤ 0x99))
    to true d e = inl (leb-true m 0x63 d)
    to false d e =
        let t = (and-eq-true_iff (leb 0x80 m) (leb m 0x99)).0 e in inr (leb-true 0x80 m t.0, leb-true m 0x99 t.1)

    from : (m ≤ 0x63) ⊎ ((0x80 ≤ m) × (m ≤ 0x99)) → leb m 0x63 || leb 0x80 m && leb m 0x99 ≡ true
    from (inl h) = ap (λ (b : Bool). b || leb 0x80 m && leb m 0x99) (le-leb m 0x63 h)
    from (inr h) =
        ap (λ (b : Bool). b || leb 0x80 m && leb m 0x99) (lt-leb m 0x63 (omega (arith, h.0)))
        ∙ (and-eq-true_iff (leb 0x80 m) (leb m 0x99)).1 (le-leb 0x80 m h.0, le-leb m 0x99 h.1)
