-- A major in range is told by its two characters, and these are text: '0' to '9' twice, or '0' and a letter. Assumes nothing.
use Rattle.std.specs.Prelude.{ℕ, ◌-◌, ◌/◌, ◌%◌, ◌≤◌, true, List, [], ◌∷◌, ◌⊎◌, ◌≡◌, get_or, leb}
use Rattle.std.proofs.Math.Bool.{and-eq-true_iff}
use Rattle.std.proofs.Common.{inl, inr, sym, ap, subst, ◌∙◌, arith, lt-ltb, le-ltb, le-leb}
use Rattle.chain.specs.All.{All}
use Rattle.octets.specs.Label.{is_text}
use Rattle.tiny_rules.specs.Rules.{is_major}
use Rattle.tiny_rules.proofs.laws.Range.{major-range}
use Rattle.tiny.specs.Major.{digit, capital, major_text, MajorShown}

-- 00h to 63h, and 80h to 99h
abbrev InRange : ℕ → Type 0
InRange m = (m ≤ 0x63) ⊎ ((0x80 ≤ m) × (m ≤ 0x99))

digits : (m : ℕ) → m ≤ 0x63 → major_text m ≡ digit (m / 10) ∷ digit (m % 10) ∷ []
unfolding major_text
digits m h = rw (lt-ltb m 0x80 (omega arith))

letter : (m : ℕ) → 0x80 ≤ m → major_text m ≡ digit 0 ∷ capital (m - 0x80) ∷ []
unfolding major_text
letter m h = rw (le-ltb m 0x80 h)

-- two majors in range with the same characters are one
pub major-injective : (a b : ℕ) → is_major a ≡ true → is_major b ≡ true → major_text a ≡ major_text b → a ≡ b
major-injective a b ha hb e = go ((major-range a).0 ha) ((major-range b).0 hb)
  where
    -- the characters of both, as they are shown
    told : (x y : List ℕ) → major_text a ≡ x → major_text b ≡ y → (get_or x 0 0 ≡ get_or y 0 0) × (get_or x 1 0 ≡ get_or y 1 0)
    told x y p q =
        let z : x ≡ y = sym p ∙ e ∙ q in (ap (λ (t : List ℕ). get_or t 0 0) z, ap (λ (t : List ℕ). get_or t 1 0) z)

    go : InRange a → InRange b → a ≡ b
    go (inl h) (inl k) = let t = told _ _ (digits a h) (digits b k) in omega (arith, t.0, t.1)
    go (inl h) (inr k) = let t = told _ _ (digits a h) (letter b k.0) in absurd (omega (arith, t.1))
    go (inr h) (inl k) = let t = told _ _ (letter a h.0) (digits b k) in absurd (omega (arith, t.1))
    go (inr h) (inr k) = let t = told _ _ (letter a h.0) (letter b k.0) in omega (arith, h.0, k.0, t.1)

-- both characters are text
pub major-text : (m : ℕ) → is_major m ≡ true → All (λ b. is_text b ≡ true) (major_text m)
unfolding is_text
major-text m h = go ((major-range m).0 h)
  where
    in-text : (b : ℕ) → 0x20 ≤ b → b ≤ 0x7E → is_text b ≡ true
    in-text b h k = (and-eq-true_iff (leb 0x20 b) (leb b 0x7E)).1 (le-leb 0x20 b h, le-leb b 0x7E k)

    both : (x : List ℕ) → All (λ b. is_text b ≡ true) x → major_text m ≡ x → All (λ b. is_text b ≡ true) (major_text m)
    both x t e = subst (All (λ b. is_text b ≡ true)) (sym e) t

    go : InRange m → All (λ b. is_text b ≡ true) (major_text m)
    go (inl h) =
        both _ (in-text (digit (m / 10)) (omega arith) (omega arith), (in-text (digit (m % 10)) (omega arith) (omega arith), tt)) (digits m h)
    go (inr h) =
        both _ (in-text (digit 0) (omega arith) (omega arith), (in-text (capital (m - 0x80)) (omega arith) (omega (arith, h.1)), tt)) (letter m h.0)

-- the characters of a major in range are the paper's
pub major-shown : (m : ℕ) → is_major m ≡ true → MajorShown m (major_text m)
major-shown m h = elim ((major-range m).0 h) [ inl k ↦ inl (k, digits m k) | inr k ↦ inr (k.0, k.1, letter m k.0) ]
