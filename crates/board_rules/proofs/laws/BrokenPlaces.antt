-- The structures that the paper's rows speak of: the second is due at map_at and the third at board_at, those after it from later_at on; where rules 21 and 25 find
-- nothing the second and the third are there, and a `$PromSig` is the one that prom_sig_at finds. Assumes nothing.
use Rattle.std.specs.Prelude.{ℕ, suc, ◌+◌, ◌≤◌, ◌<◌, Bool, List, ◌↔◌, ◌≡◌, ltb, Some, None}
use Rattle.std.proofs.Common.{inl, inr, sym, subst, ◌∙◌, arith}
use Rattle.std.proofs.Math.Path.{refl, ap}
use Rattle.std.proofs.Math.Dec.{eqb}
use borrow.Author.Tests.{ltb-true, lt-ltb, eqb-true, eq-eqb}
use Rattle.board_layout.specs.Layout.{signature_at, struct_len, next, structures, map_at, board_at, later_at}
use Rattle.board_layout.specs.Places.{EepromSig}
use Rattle.board_layout.proofs.laws.Layout.{next-grows, end-next, structure-below}
use Rattle.board_rules.specs.Broken.{StructureAt, Second, Third, PromSigAt, Expected}
use Rattle.board_rules.specs.Rules.{rule21, rule25, prom_sig_at, on_found, covered_up_to, covered}
use Rattle.board_rules.proofs.laws.Heads.{Last, prom-sig-last}
use Rattle.board_rules.proofs.laws.Order.{map-second, board-third}
use Rattle.chain.specs.Chain.{chain}
use Rattle.chain.specs.Finds.{Finds, Nowhere}
use Rattle.chain.specs.First.{when}
use Rattle.chain.specs.Nth.{nth}
use Rattle.chain.specs.Found.{Found}
use Rattle.chain.proofs.laws.Among.{nth-start, nth-next}
use Rattle.chain.proofs.laws.Apart.{among-behind}
use Rattle.chain.proofs.laws.Below.{below}
use Rattle.chain.proofs.laws.Finds.{found-is, found-none, finds-one, finds-starts}
use Rattle.chain.proofs.laws.First.{when-place, when-test}
use Rattle.chain.proofs.laws.Nth.{nth-all}
use Rattle.kinds.specs.Signatures.{prom_sig}
use Rattle.kinds.specs.declared.Kinds.{Kinds}

module _ (s : List ℕ) where
  -- the structures from p on
  abbrev pub onwards : ℕ → List ℕ
  onwards p = chain (next s) (struct_len s) p

  -- number n + 1 from p on is number n from the next one on
  nth-onwards : (p n : ℕ) → nth (onwards p) (suc n) ≡ nth (onwards (next s p)) n
  nth-onwards = nth-next (next s) (struct_len s) (next-grows s)

  -- so the second, the third and those after it
  pub nth-second : nth (structures s) 1 ≡ when (ltb (map_at s) (struct_len s)) (map_at s)
  unfolding map_at
  nth-second = nth-onwards 0 0 ∙ nth-start (next s) (struct_len s) (next-grows s) (map_at s)

  pub nth-third : nth (structures s) 2 ≡ when (ltb (board_at s) (struct_len s)) (board_at s)
  unfolding board_at map_at
  nth-third = nth-onwards 0 1 ∙ nth-onwards (map_at s) 0 ∙ nth-start (next s) (struct_len s) (next-grows s) (board_at s)

  pub nth-later : (i : ℕ) → nth (structures s) (3 + i) ≡ nth (onwards (later_at s)) i
  unfolding later_at board_at map_at
  nth-later i = ap (nth (structures s)) (omega arith) ∙ nth-onwards 0 (suc (suc i)) ∙ nth-onwards (map_at s) (suc i) ∙ nth-onwards (board_at s) i

-- ---- the second, the third and `$PromSig`
module _ (k : Kinds) (s : List ℕ) where
  -- where they are due
  pub second-place : (q : ℕ) → Second k s q → (q ≡ map_at s) × (map_at s < struct_len s)
  second-place q e =
      let d : when (ltb (map_at s) (struct_len s)) (map_at s) ≡ Some q = sym (nth-second s) ∙ e in (
        sym (when-place (ltb (map_at s) (struct_len s)) (map_at s) q d),
        ltb-true (map_at s) (struct_len s) (when-test (ltb (map_at s) (struct_len s)) (map_at s) q d),
      )

  pub third-place : (q : ℕ) → Third k s q → (q ≡ board_at s) × (board_at s < struct_len s)
  third-place q e =
      let d : when (ltb (board_at s) (struct_len s)) (board_at s) ≡ Some q = sym (nth-third s) ∙ e in (
        sym (when-place (ltb (board_at s) (struct_len s)) (board_at s) q d),
        ltb-true (board_at s) (struct_len s) (when-test (ltb (board_at s) (struct_len s)) (board_at s) q d),
      )

  -- and they are there before StructLen
  pub second-there : map_at s < struct_len s → Second k s (map_at s)
  second-there h = nth-second s ∙ ap (λ (b : Bool). when b (map_at s)) (lt-ltb (map_at s) (struct_len s) h)

  pub third-there : board_at s < struct_len s → Third k s (board_at s)
  third-there h = nth-third s ∙ ap (λ (b : Bool). when b (board_at s)) (lt-ltb (board_at s) (struct_len s) h)

  -- rule 25 finds nothing: the second is the structure at map_at, and the third the one at board_at
  pub second-is : rule25 s ≡ None → (q : ℕ) → Second k s q ↔ (q ≡ map_at s)
  second-is e q = (λ h. (second-place q h).0, λ i. subst (Second k s) (sym i) (second-there (map-second s e).0))

  pub third-is : rule25 s ≡ None → (q : ℕ) → Third k s q ↔ (q ≡ board_at s)
  third-is e q = (λ h. (third-place q h).0, λ i. subst (Third k s) (sym i) (third-there (board-third s e).0))

  -- the first `$PromSig` is found
  prom-sig-finds : Finds (PromSigAt k s) (prom_sig_at s)
  unfolding prom_sig_at
  prom-sig-finds =
      finds-starts (λ p. eqb (signature_at s p) prom_sig) (next s) (struct_len s) (next-grows s) (PromSigAt k s) 0
      (λ z a t. (a, eqb-true (signature_at s z) prom_sig t)) (λ z h. (h.0, eq-eqb (signature_at s z) prom_sig h.1))

  -- rules 21 and 25 find nothing: a `$PromSig` is the last structure, so there is but one
  prom-sig-ends : rule21 s ≡ None → rule25 s ≡ None → (p q : ℕ) → PromSigAt k s p → StructureAt k s q → q ≤ p
  prom-sig-ends head e p q a b =
      elim (below p q) [
        | inl h ↦
            let l = nth-all (Last s) (structures s) a.0.0 p (prom-sig-last s head e) a.0.1 a.1 in
            absurd (omega (arith, l.1, end-next s p, among-behind (next s) (struct_len s) (next-grows s) 0 p q a.0 b h, structure-below s b.0 q b.1))
        | inr h ↦ h
      ]

  -- and it is the one that is found
  prom-sig-one : rule21 s ≡ None → rule25 s ≡ None → (q : ℕ) → prom_sig_at s ≡ Some q → (p : ℕ) → PromSigAt k s p ↔ (p ≡ q)
  prom-sig-one head e q d p =
      let h = found-is (PromSigAt k s) (prom_sig_at s) q prom-sig-finds d in
      (λ a. omega (arith, h.1 p a, prom-sig-ends head e q p h.0 a.0), λ i. subst (PromSigAt k s) (sym i) h.0)

  -- if any is
  prom-sig-none : prom_sig_at s ≡ None → Nowhere (PromSigAt k s)
  prom-sig-none d = found-none (PromSigAt k s) (prom_sig_at s) prom-sig-finds d

  -- so a rule on the one that is found is a rule on a `$PromSig`
  pub finds-on-prom-sig : rule21 s ≡ None → rule25 s ≡ None → (rule : ℕ → Found) (B : ℕ → ℕ → Type 0) → ((p : ℕ) → Finds (B p) (rule p))
      → Finds (λ z. (p : ℕ) × (PromSigAt k s p × B p z)) (on_found rule (prom_sig_at s))
  finds-on-prom-sig head e rule B each = go (prom_sig_at s) refl
    where
      go : (f : Found) → prom_sig_at s ≡ f → Finds (λ z. (p : ℕ) × (PromSigAt k s p × B p z)) (on_found rule f)
      go (Some q) d = finds-one (PromSigAt k s) q (prom-sig-one head e q d) B (rule q) (each q)
      go None d = λ z x. prom-sig-none d x.0 x.1.0

  -- and the expected CrcLength is what rule 27 goes by
  pub expected-is : rule21 s ≡ None → rule25 s ≡ None → (n : ℕ) → Expected k s n ↔ (n ≡ covered s)
  unfolding covered
  expected-is head e n = go (prom_sig_at s) refl
    where
      go : (f : Found) → prom_sig_at s ≡ f → Expected k s n ↔ (n ≡ covered_up_to (struct_len s) f)
      go (Some q) d = (to, Expected.to_prom_sig q there)
        where
          there : PromSigAt k s q
          there = (prom-sig-one head e q d q).1 refl

          to : Expected k s n → n ≡ q + EepromSig
          to (Expected.to_struct_len none i) = absurd (none q there)
          to (Expected.to_prom_sig p a i) = omega (arith, i, (prom-sig-one head e q d p).0 a)
      go None d = (to, Expected.to_struct_len (prom-sig-none d))
        where
          to : Expected k s n → n ≡ struct_len s
          to (Expected.to_struct_len none i) = i
          to (Expected.to_prom_sig p a i) = absurd (prom-sig-none d p a)
