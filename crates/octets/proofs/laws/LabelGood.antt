-- Nothing is bad exactly in good labels: the rule looks at each byte that the paper's sentence speaks of, and at no other. Assumes nothing.
use Rattle.std.specs.Prelude.{ℕ, ◌+◌, ◌<◌, Bool, not, List, ◌⊎◌, ◌≡◌, eqb, Some, None}
use Rattle.std.proofs.Math.Bool.{true}
use Rattle.std.proofs.Math.Logic.{inl, inr}
use Rattle.std.proofs.Math.Path.{refl, ap}
use Rattle.std.proofs.Common.{sym, ap₂, ◌∙◌, arith, eq-eqb, eqb-true}
use Rattle.std.proofs.lemmas.Bool.{not-false}
use Rattle.chain.specs.First.{or_else, when}
use Rattle.chain.specs.Found.{Found}
use Rattle.chain.proofs.laws.First.{or_else-left, or_else-right, when-nothing}
use Rattle.octets.specs.Bytes.{byte}
use Rattle.octets.specs.Label.{is_label_text, dollar, text_end, after_text, bad_label, Ended, GoodLabel, label}
use Rattle.octets.specs.Runs.{nonzero}
use Rattle.octets.proofs.laws.Bytes.{length-run}
use Rattle.octets.proofs.laws.Label.{label-byte, dollar-text, text-full, full-text, text-fits, text-before, stops-text}
use Rattle.octets.proofs.laws.Runs.{nonzero-none, none-nonzero}

module _ (s : List ℕ) (p : ℕ) where
  -- the two clauses of the rule where the text ends at i: '$' there, and zeros after it
  abbrev mark : ℕ → Found
  mark i = when (not (eqb (byte s (p + i)) dollar)) (p + i)

  abbrev rest : ℕ → Found
  rest i = nonzero s p (i + 1) 16

  ended : (i : ℕ) → text_end s p ≡ Some i → or_else (mark i) (rest i) ≡ None → Ended (label s p) i
  ended i d e =
      let w : i < 16 = text-fits s p i d in
      record {
        room = w;
        mark = label-byte s p i w ∙ eqb-true _ _ (not-false _ (when-nothing _ (p + i) (or_else-left (mark i) (rest i) e)));
        zeros = λ j h k. label-byte s p j k ∙ nonzero-none s p (i + 1) 16 (or_else-right (mark i) (rest i) e) j (omega arith) k;
      }

  pub good-label : bad_label s p ≡ None → GoodLabel (label s p)
  unfolding bad_label
  good-label = go (text_end s p) refl
    where
      go : (f : Found) → text_end s p ≡ f → after_text s p f ≡ None → GoodLabel (label s p)
      go (Some i) d e =
          record {
            sixteen = length-run s p 16;
            text = i;
            characters = λ j h. ap is_label_text (label-byte s p j (omega (arith, text-fits s p i d))) ∙ text-before s p i d j h;
            ends = inr (ended i d e);
          }
      go None d e =
          record {
            sixteen = length-run s p 16;
            text = 16;
            characters = λ j h. ap is_label_text (label-byte s p j h) ∙ text-full s p d j h;
            ends = inl refl;
          }

  pub label-good : GoodLabel (label s p) → bad_label s p ≡ None
  unfolding bad_label
  label-good g = go g.ends
    where
      characters : (j : ℕ) → j < 16 → j < g.text → is_label_text (byte s (p + j)) ≡ true
      characters j h k = ap is_label_text (sym (label-byte s p j h)) ∙ g.characters j k

      go : (g.text ≡ 16) ⊎ Ended (label s p) g.text → after_text s p (text_end s p) ≡ None
      go (inl e) = ap (after_text s p) (full-text s p (λ j h. characters j h (omega (arith, e))))
      go (inr e) =
          let i = g.text in
          let m : byte s (p + i) ≡ dollar = sym (label-byte s p i e.room) ∙ e.mark in
          ap (after_text s p) (stops-text s p i e.room (λ j h. characters j (omega (arith, e.room)) h) (dollar-text _ m))
          ∙ ap₂ (λ (b : Bool) (f : Found). or_else (when (not b) (p + i)) f) (eq-eqb _ _ m)
          (none-nonzero s p (i + 1) 16 (λ j h k. sym (label-byte s p j k) ∙ e.zeros j (omega arith) k))
