-- The texts of a pool tell its bytes: splitting is undone by setting the end mark on the last character of each text. Assumes nothing.
use Rattle.std.specs.Prelude.{ℕ, suc, ◌+◌, Bool, true, false, cond, List, [], ◌∷◌, ◌++◌, ◌≡◌, refl, length}
use Rattle.std.proofs.Common.{sym, ap, ap₂, ◌∙◌, arith, leb-true, leb-false}
use Rattle.octets.specs.Bytes.{byte, Octets}
use Rattle.tiny_layout.specs.Strings.{is_marked, letter, in_front, split}

-- the bytes of a text, and of texts end to end
spell : List ℕ → List ℕ
spell [] = []
spell (c ∷ []) = (c + 128) ∷ []
spell (c ∷ (d ∷ ds)) = c ∷ spell (d ∷ ds)

joined : List (List ℕ) → List ℕ
joined [] = []
joined (t ∷ ts) = spell t ++ joined ts

-- the last byte is marked
abbrev pub Closed : List ℕ → Type 0
Closed l = (i : ℕ) → i + 1 ≡ length l → is_marked (byte l i) ≡ true

-- the first text is not empty
record Starts (l : List (List ℕ)) : Type 0 where
  character : ℕ
  more : List ℕ
  others : List (List ℕ)
  is : l ≡ (character ∷ more) ∷ others

starts : (b : ℕ) (bs : List ℕ) → Starts (split (b ∷ bs))
unfolding split
starts b bs = go (is_marked b) (split bs)
  where
    go : (m : Bool) (l : List (List ℕ)) → Starts (cond m ((letter b ∷ []) ∷ l) (in_front (letter b) l))
    go true l = record { character = letter b; more = []; others = l; is = refl }
    go false [] = record { character = letter b; more = []; others = []; is = refl }
    go false (t ∷ ts) = record { character = letter b; more = t; others = ts; is = refl }

undone : (l : List ℕ) → Octets l → Closed l → joined (split l) ≡ l
unfolding split joined spell
undone [] good closed = refl
undone (b ∷ []) good closed =
    let m : is_marked b ≡ true = closed 0 refl in
    rw m (ap (λ (x : ℕ). x ∷ []) (omega (arith, leb-true 128 b m, good 0)))
undone (b ∷ (d ∷ ds)) good closed = go (is_marked b) refl (undone (d ∷ ds) (λ p. good (suc p)) (λ i h. closed (suc i) (omega arith)))
  where
    go : (m : Bool) → is_marked b ≡ m → joined (split (d ∷ ds)) ≡ d ∷ ds
        → joined (cond m ((letter b ∷ []) ∷ split (d ∷ ds)) (in_front (letter b) (split (d ∷ ds)))) ≡ b ∷ (d ∷ ds)
    go true e ih = ap₂ (λ (x : ℕ) (l : List ℕ). x ∷ l) (omega (arith, leb-true 128 b e, good 0)) ih
    go false e ih =
        let w : Starts (split (d ∷ ds)) = starts d ds in
        ap (λ (l : List (List ℕ)). joined (in_front (letter b) l)) w.is
        ∙ ap₂ (λ (x : ℕ) (l : List ℕ). x ∷ l) (omega (arith, leb-false 128 b e)) (sym (ap joined w.is) ∙ ih)

pub split-injective : (a b : List ℕ) → Octets a → Octets b → Closed a → Closed b → split a ≡ split b → a ≡ b
split-injective a b good fine x y e = sym (undone a good x) ∙ ap joined e ∙ undone b fine y
