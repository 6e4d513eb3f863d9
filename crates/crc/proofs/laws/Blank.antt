-- A list with a field counted as zero is as long as before, has zeros in the field, and has the bytes it had outside it.
-- By induction over what stands before the field, and then over the field.
-- Assumes nothing.
use Rattle.std.specs.Prelude.{ℕ, zero, suc, ◌+◌, ◌≤◌, ◌<◌, ◌≡◌, refl, length, take, drop}
use mathlib.Core.List.{List, [], ◌∷◌, ◌++◌, map, foldl, foldl-append, append_assoc}
use Rattle.std.proofs.Common.{inl, inr, sym, ap, ◌∙◌, zero-add, suc-add, arith, length-append, length-take, length-drop, ext_get_or}
use Rattle.std.proofs.lemmas.List.{length-map, take-append-le, drop-append-le}
use Rattle.std.proofs.Math.Seq.{take-nil, drop-nil}
use Rattle.chain.proofs.laws.Below.{below}
use Rattle.octets.specs.Bytes.{byte}
use Rattle.crc.specs.Blank.{blank}

-- as long as before
pub length-blank : (at n : ℕ) (s : List ℕ) → length (blank at n s) ≡ length s
length-blank at n s = simp (length-append, length-map, length-take, length-drop) (omega arith)

-- nothing stays nothing
blank-nil : (at n : ℕ) → blank at n [] ≡ []
blank-nil at n = simp (take-nil, drop-nil)

-- a byte before the field
blank-cons : (at n b : ℕ) (s : List ℕ) → blank (suc at) n (b ∷ s) ≡ b ∷ blank at n s
blank-cons at n b s = simp suc-add

-- a byte of a field at the front
front-cons : (n b : ℕ) (s : List ℕ) → blank 0 (suc n) (b ∷ s) ≡ 0 ∷ blank 0 n s
front-cons n b s = simp zero-add

-- in the field a byte counts as zero
pub byte-blank-in : (at n : ℕ) (s : List ℕ) (p : ℕ) → at ≤ p → p < at + n → byte (blank at n s) p ≡ 0
byte-blank-in at n [] p h l = rw blank-nil
byte-blank-in zero zero (b ∷ s) p h l = absurd (omega arith)
byte-blank-in zero (suc n) (b ∷ s) zero h l = refl
byte-blank-in zero (suc n) (b ∷ s) (suc p) h l =
    ap (λ (l : List ℕ). byte l (suc p)) (front-cons n b s) ∙ byte-blank-in zero n s p (omega arith) (omega arith)
byte-blank-in (suc at) n (b ∷ s) zero h l = absurd (omega arith)
byte-blank-in (suc at) n (b ∷ s) (suc p) h l = rw blank-cons (byte-blank-in at n s p (omega arith) (omega (arith, suc-add at n)))

-- before the field and behind it a byte is as before
pub byte-blank-before : (at n : ℕ) (s : List ℕ) (p : ℕ) → p < at → byte (blank at n s) p ≡ byte s p
byte-blank-before at n [] p h = rw blank-nil
byte-blank-before zero n (b ∷ s) p h = absurd (omega arith)
byte-blank-before (suc at) n (b ∷ s) zero h = refl
byte-blank-before (suc at) n (b ∷ s) (suc p) h = rw blank-cons (byte-blank-before at n s p (omega arith))

pub byte-blank-behind : (at n : ℕ) (s : List ℕ) (p : ℕ) → at + n ≤ p → byte (blank at n s) p ≡ byte s p
byte-blank-behind at n [] p h = rw blank-nil
byte-blank-behind zero zero (b ∷ s) p h = refl
byte-blank-behind zero (suc n) (b ∷ s) zero h = absurd (omega arith)
byte-blank-behind zero (suc n) (b ∷ s) (suc p) h =
    ap (λ (l : List ℕ). byte l (suc p)) (front-cons n b s) ∙ byte-blank-behind zero n s p (omega arith)
byte-blank-behind (suc at) n (b ∷ s) zero h = absurd (omega arith)
byte-blank-behind (suc at) n (b ∷ s) (suc p) h = rw blank-cons (byte-blank-behind at n s p (omega (arith, suc-add at n)))

-- so what stood in the field does not matter
pub blank-same : (at n : ℕ) (s t : List ℕ) → length s ≡ length t → ((p : ℕ) → p < at → byte s p ≡ byte t p) → ((p : ℕ) → at + n ≤ p → byte s p ≡ byte t p) → blank at n s ≡ blank at n t
blank-same at n s t e before behind =
    ext_get_or 0 (blank at n s) (blank at n t) (length-blank at n s ∙ e ∙ sym (length-blank at n t))
    (λ p h.
    elim (below p at) [
      | inl k ↦ byte-blank-before at n s p k ∙ before p k ∙ sym (byte-blank-before at n t p k)
      | inr k ↦ elim (below p (at + n)) [
        | inl l ↦ byte-blank-in at n s p k l ∙ sym (byte-blank-in at n t p k l)
        | inr l ↦ byte-blank-behind at n s p l ∙ behind p l ∙ sym (byte-blank-behind at n t p l)
      ]
    ])

-- ---- in parts: what follows the field is as it is, and a sum over the list goes before, in and after the field
pub blank-append : (at n : ℕ) (xs ys : List ℕ) → at + n ≤ length xs → blank at n (xs ++ ys) ≡ blank at n xs ++ ys
blank-append at n xs ys h =
    let d : n ≤ length (drop at xs) = simp length-drop (omega arith) in
    let b : at ≤ length xs = omega arith in
    rw (take-append-le at xs ys b, drop-append-le at xs ys b, take-append-le n (drop at xs) ys d, drop-append-le (at + n) xs ys h)
    (simp append_assoc)

pub fold-blank : (f : ℕ → ℕ → ℕ) (c at n : ℕ) (s : List ℕ) → foldl f c (blank at n s) ≡ foldl f (foldl f (foldl f c (take at s)) (map (λ b. 0) (take n (drop at s)))) (drop (at + n) s)
fold-blank f c at n s =
    foldl-append f c (take at s) (map (λ b. 0) (take n (drop at s)) ++ drop (at + n) s)
    ∙ foldl-append f (foldl f c (take at s)) (map (λ b. 0) (take n (drop at s))) (drop (at + n) s)
