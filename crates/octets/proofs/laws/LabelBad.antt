-- The bad byte is the first that no good label with the same beginning has. The idea: text, '$' and zero are told apart by one byte, so the bytes
-- before the bad one fix how many characters a label with that beginning has. Assumes nothing.
use Rattle.std.specs.Prelude.{ℕ, ◌+◌, ◌≤◌, ◌<◌, Bool, true, false, not, cond, List, ◌⊎◌, ◌≡◌, T, eqb, ltb, Some, None}
use Rattle.std.proofs.Common.{inl, inr, sym, ap, subst, ◌∙◌, arith, eq-eqb, ne_eqb, eqb-true, lt-ltb, le-ltb}
use Rattle.std.proofs.Math.Path.{refl}
use Rattle.std.proofs.lemmas.Bool.{eqb-false, not-false, not-true}
use Rattle.chain.specs.Fill.{tab}
use Rattle.chain.specs.Finds.{Finds}
use Rattle.chain.specs.First.{or_else, when}
use Rattle.chain.specs.Found.{Found}
use Rattle.chain.proofs.laws.Below.{below}
use Rattle.chain.proofs.laws.Clauses.{Clause}
use Rattle.chain.proofs.laws.Fill.{length-tab, get_or-tab}
use Rattle.chain.proofs.laws.First.{at-nothing}
use Rattle.chain.proofs.laws.Ranges.{Least}
use Rattle.octets.specs.Bytes.{byte}
use Rattle.octets.specs.Label.{is_label_text, dollar, text_end, after_text, bad_label, Ended, GoodLabel, BadByte, label, BadAt}
use Rattle.octets.specs.Runs.{is_set, nonzero}
use Rattle.octets.proofs.laws.Label.{label-byte, dollar-text, text-fits, text-before, text-stops}
use Rattle.octets.proofs.laws.LabelGood.{good-label}
use Rattle.octets.proofs.laws.Runs.{nonzero-least}

-- a byte is not both text and no text
clash : (b : ℕ) → is_label_text b ≡ true → is_label_text b ≡ false → ⊥
clash b t f = subst T (sym t ∙ f) tt

module _ (s : List ℕ) (p : ℕ) where
  -- the bad byte is at offset m: the text ends at i, not after m
  module _ (i m : ℕ) (end : text_end s p ≡ Some i) (order : i ≤ m) (within : m < 16) where
    -- a good label with the bytes before m
    completed : ℕ → ℕ
    completed j = cond (ltb j m) (byte s (p + j)) (cond (eqb j i) dollar 0)

    as-given : (j : ℕ) → j < m → completed j ≡ byte s (p + j)
    unfolding completed
    as-given j h = rw (lt-ltb j m h)

    as-ended : (j : ℕ) (b : Bool) → m ≤ j → eqb j i ≡ b → completed j ≡ cond b dollar 0
    unfolding completed
    as-ended j b h e = rw (le-ltb j m h, e)

    other-byte : (j : ℕ) → j < 16 → byte (tab completed 16) j ≡ completed j
    other-byte j h = get_or-tab completed 16 j 0 h

    completed-good : (i < m → byte s (p + i) ≡ dollar) → ((j : ℕ) → i < j → j < m → byte s (p + j) ≡ 0) → GoodLabel (tab completed 16)
    completed-good marked zeroed =
        record {
          sixteen = length-tab completed 16;
          text = i;
          characters = λ j h. ap is_label_text (other-byte j (omega arith) ∙ as-given j (omega arith)) ∙ text-before s p i end j h;
          ends =
              inr (record {
                room = omega arith;
                mark =
                    other-byte i (omega arith)
                    ∙ elim (below i m) [ inl h ↦ as-given i h ∙ marked h | inr h ↦ as-ended i true h (eq-eqb i i refl) ];
                zeros =
                    λ j h k.
                    other-byte j k
                    ∙ elim (below j m) [ inl l ↦ as-given j l ∙ zeroed j h l | inr l ↦ as-ended j false l (ne_eqb j i (λ e. omega arith)) ];
              });
        }

    -- with the byte at m too there is none, unless it ends after i characters
    no-label : ((l : List ℕ) → Ended l i → ((j : ℕ) → j ≤ m → byte l j ≡ byte (label s p) j) → ⊥) → (l : List ℕ) → GoodLabel l → ((j : ℕ) → j ≤ m → byte l j ≡ byte (label s p) j) → ⊥
    no-label refute l g same = go (below g.text i) (below i g.text) g.ends
      where
        as-label : (j : ℕ) → j ≤ m → byte l j ≡ byte s (p + j)
        as-label j h = same j h ∙ label-byte s p j (omega arith)

        go : (g.text < i) ⊎ (i ≤ g.text) → (i < g.text) ⊎ (g.text ≤ i) → (g.text ≡ 16) ⊎ Ended l g.text → ⊥
        go (inl h) w (inl e) = omega arith
        go (inl h) w (inr e) =
            clash (byte s (p + g.text)) (text-before s p i end g.text h) (dollar-text _ (sym (as-label g.text (omega arith)) ∙ e.mark))
        go (inr h) (inl k) e =
            clash (byte s (p + i)) (ap is_label_text (sym (as-label i order)) ∙ g.characters i k) (text-stops s p i end)
        go (inr h) (inr k) (inl e) = omega arith
        go (inr h) (inr k) (inr e) = refute l (subst (Ended l) (omega arith) e) same

    bad : (i < m → byte s (p + i) ≡ dollar) → ((j : ℕ) → i < j → j < m → byte s (p + j) ≡ 0)
        → ((l : List ℕ) → Ended l i → ((j : ℕ) → j ≤ m → byte l j ≡ byte (label s p) j) → ⊥) → BadByte (label s p) m
    bad marked zeroed refute =
        record {
          within = within;
          other = tab completed 16;
          good = completed-good marked zeroed;
          beginning = λ j h. other-byte j (omega arith) ∙ as-given j h ∙ sym (label-byte s p j (omega arith));
          none = no-label refute;
        }

  -- the rule's place is that of the bad byte
  pub bad-byte : (q : ℕ) → bad_label s p ≡ Some q → BadAt s p q
  unfolding bad_label
  bad-byte q = go (text_end s p) refl
    where
      no-mark : (i : ℕ) → text_end s p ≡ Some i → (byte s (p + i) ≡ dollar → ⊥) → BadAt s p (p + i)
      no-mark i d n =
          let w : i < 16 = text-fits s p i d in
          record {
            offset = i;
            stands = refl;
            bad =
                bad i i d (omega arith) w (λ h. absurd (omega arith)) (λ j h k. absurd (omega arith))
                (λ l e same. n (sym (same i (omega arith) ∙ label-byte s p i w) ∙ e.mark));
          }

      not-zero : (i : ℕ) → text_end s p ≡ Some i → byte s (p + i) ≡ dollar → Least (is_set s p) (λ j. p + j) (i + 1) 16 q → BadAt s p q
      not-zero i d k l =
          record {
            offset = l.number;
            stands = l.stands;
            bad =
                bad i l.number d (omega (arith, l.from)) l.to (λ h. k)
                (λ j h g. eqb-true _ _ (not-false _ (l.before j (omega arith) g)))
                (λ m e same.
                eqb-false _ _ (not-true _ l.passes)
                (sym (same l.number (omega arith) ∙ label-byte s p l.number l.to) ∙ e.zeros l.number (omega (arith, l.from)) l.to));
          }

      at-end : (i : ℕ) → text_end s p ≡ Some i → (b : Bool) → eqb (byte s (p + i)) dollar ≡ b → or_else (when (not b) (p + i)) (nonzero s p (i + 1) 16) ≡ Some q → BadAt s p q
      at-end i d true t e = not-zero i d (eqb-true _ _ t) (nonzero-least s p (i + 1) 16 q e)
      at-end i d false t e = let z : p + i ≡ q = cc in subst (BadAt s p) z (no-mark i d (eqb-false _ _ t))

      go : (f : Found) → text_end s p ≡ f → after_text s p f ≡ Some q → BadAt s p q
      go (Some i) d e = at-end i d (eqb (byte s (p + i)) dollar) refl e
      go None d e = absurd (at-nothing (sym e))

  -- a label has one bad byte at most, and a good one has none: so the rule finds it
  one-bad : (i j : ℕ) → BadByte (label s p) i → BadByte (label s p) j → i ≤ j
  one-bad i j a b =
      elim (below j i) [ inl h ↦ absurd (b.none a.other a.good (λ m l. a.beginning m (omega arith))) | inr h ↦ h ]

  pub finds-label : Finds (BadAt s p) (bad_label s p)
  finds-label = go (bad_label s p) refl
    where
      go : (f : Found) → bad_label s p ≡ f → Finds (BadAt s p) f
      go (Some q) e =
          let h : BadAt s p q = bad-byte q e in
          (h, λ z b. omega (arith, one-bad h.offset b.offset h.bad b.bad, h.stands, b.stands))
      go None e = λ z b. b.bad.none (label s p) (good-label s p e) (λ j h. refl)

-- a label as a clause of a rule
abbrev pub of_label : List ℕ → ℕ → Clause
of_label s q =
    record {
      found = bad_label s q;
      broken = BadAt s q;
      finds = finds-label s q;
      from = q;
      upto = q + 15;
      rises = omega arith;
      within = λ z h. (omega (arith, h.stands), omega (arith, h.stands, h.bad.within));
    }
