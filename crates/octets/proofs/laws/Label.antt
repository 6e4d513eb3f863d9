-- Where the text of a label ends, and what its bytes are before, at and after that. Assumes nothing.
use Rattle.std.specs.Prelude.{ℕ, ◌+◌, ◌-◌, ◌≤◌, ◌<◌, Bool, true, false, ◌&&◌, List, ◌⊎◌, ◌≡◌, refl, eqb, leb, length, Some, None}
use Rattle.std.proofs.Math.Bool.{not, and-true}
use Rattle.std.proofs.Common.{inl, inr, sym, subst, ◌∙◌, arith}
use Rattle.std.proofs.Math.Path.{ap}
use borrow.Author.Tests.{leb-true, not-false, not-true}
use Rattle.chain.specs.Chain.{ahead}
use Rattle.chain.specs.First.{or_else, when, search}
use Rattle.chain.specs.Found.{Found}
use Rattle.chain.proofs.laws.Below.{below}
use Rattle.chain.proofs.laws.Loops.{one-grows, search-end, search-more}
use Rattle.chain.proofs.laws.Ranges.{Least, range-least, range-none, least-range, none-range}
use Rattle.octets.specs.Bytes.{byte}
use Rattle.octets.specs.Label.{is_text, is_label_text, dollar, no_text, text_end, label}
use Rattle.octets.specs.Runs.{is_nothing}
use Rattle.octets.proofs.laws.Bytes.{byte-within, byte-run}

-- '$' is no text
pub dollar-text : (b : ℕ) → b ≡ dollar → is_label_text b ≡ false
unfolding is_label_text is_text
dollar-text b e = ap is_label_text e

-- a character is not zero
pub text-nonzero : (b : ℕ) → is_label_text b ≡ true → 0 < b
unfolding is_label_text is_text
text-nonzero b e = go (leb 0x20 b) refl e
  where
    go : (t : Bool) → leb 0x20 b ≡ t → t && leb b 0x7E && not (eqb b dollar) ≡ true → 0 < b
    go true d e = omega (arith, leb-true 0x20 b d)
    go false d e = let z : ◌≡◌ {A = ℕ} 0 1 = cc in absurd (omega arith)

module _ (s : List ℕ) (p : ℕ) where
  pub label-byte : (i : ℕ) → i < 16 → byte (label s p) i ≡ byte s (p + i)
  label-byte i h = byte-run s p 16 i h

  -- the text does not end exactly where all sixteen bytes are characters
  pub text-full : text_end s p ≡ None → (i : ℕ) → i < 16 → is_label_text (byte s (p + i)) ≡ true
  unfolding text_end
  text-full e i h = not-false _ (range-none (no_text s p) (λ j. j) 16 0 e i (omega arith) h)

  pub full-text : ((i : ℕ) → i < 16 → is_label_text (byte s (p + i)) ≡ true) → text_end s p ≡ None
  unfolding text_end
  full-text f = none-range (no_text s p) (λ j. j) 16 0 (λ i h k. ap not (f i k))

  -- it ends at i exactly where the bytes before i are characters, and the one at i is none
  ends : (i : ℕ) → text_end s p ≡ Some i → Least (no_text s p) (λ j. j) 0 16 i
  unfolding text_end
  ends i e = range-least (no_text s p) (λ j. j) 16 0 i e

  pub text-fits : (i : ℕ) → text_end s p ≡ Some i → i < 16
  text-fits i e = let l : Least (no_text s p) (λ j. j) 0 16 i = ends i e in omega (arith, l.to, l.stands)

  pub text-before : (i : ℕ) → text_end s p ≡ Some i → (j : ℕ) → j < i → is_label_text (byte s (p + j)) ≡ true
  text-before i e j h =
      let l : Least (no_text s p) (λ j. j) 0 16 i = ends i e in
      not-false _ (l.before j (omega arith) (omega (arith, l.stands)))

  pub text-stops : (i : ℕ) → text_end s p ≡ Some i → is_label_text (byte s (p + i)) ≡ false
  text-stops i e =
      let l : Least (no_text s p) (λ j. j) 0 16 i = ends i e in
      not-true _ (subst (λ (j : ℕ). no_text s p j ≡ true) l.stands l.passes)

  pub stops-text : (i : ℕ) → i < 16 → ((j : ℕ) → j < i → is_label_text (byte s (p + j)) ≡ true) → is_label_text (byte s (p + i)) ≡ false → text_end s p ≡ Some i
  unfolding text_end
  stops-text i h f e =
      least-range (no_text s p) (λ j. j) 16 0 i
      (record { number = i; from = omega arith; to = h; passes = ap not e; stands = refl; before = λ j _ k. ap not (f j k) })

  -- it ends no further than the label's start and the end of the image
  pub text-within : (i m : ℕ) → text_end s p ≡ Some i → p < m → length s < m → p + i < m
  text-within i m e h k = go (below 0 i)
    where
      go : (0 < i) ⊎ (i ≤ 0) → p + i < m
      go (inl j) =
          let b = byte s (p + (i - 1)) in
          omega (arith, byte-within s (p + (i - 1)) (text-nonzero b (text-before i e (i - 1) (omega arith))))
      go (inr j) = omega arith

  -- ---- a loop over the sixteen bytes: whether they are text up to i, and whether the text ends from i on
  abbrev pub text_from : ℕ → Found
  text_from = search (λ i. when (no_text s p i) i) (ahead 1) 16

  text-more : (here : Bool) (i : ℕ) → i < 16 → is_label_text (byte s (p + i)) ≡ here → text_from i ≡ or_else (when (not here) i) (text_from (i + 1))
  text-more here i h e = search-more (λ j. when (no_text s p j) j) (ahead 1) 16 one-grows i h ∙ rw e

  pub full-turn : (all here : Bool) (i : ℕ) {r : Bool} → i < 16 → is_label_text (byte s (p + i)) ≡ here → all && is_nothing (text_from i) ≡ r → all && here && is_nothing (text_from (i + 1)) ≡ r
  full-turn true true i h e inv = sym (ap is_nothing (text-more true i h e)) ∙ inv
  full-turn true false i h e inv = sym (ap is_nothing (text-more false i h e)) ∙ inv
  full-turn false here i h e inv = inv

  pub full-done : (all : Bool) (i : ℕ) {r : Bool} → 16 ≤ i → all && is_nothing (text_from i) ≡ r → all ≡ r
  full-done all i h inv =
      sym (and-true all) ∙ ap (λ (f : Found). all && is_nothing f) (sym (search-end (λ j. when (no_text s p j) j) (ahead 1) 16 one-grows i h)) ∙ inv
