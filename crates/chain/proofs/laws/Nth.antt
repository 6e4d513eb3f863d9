-- The laws of the place at a number, over any list of places. Assumes nothing.
use Rattle.std.specs.Prelude.{ℕ, zero, suc, ◌≤◌, ◌<◌, List, [], ◌∷◌, ◌≡◌, refl, length, get_or, Some, None}
use Rattle.std.proofs.Common.{sym, arith}
use Rattle.chain.specs.All.{All}
use Rattle.chain.specs.Nth.{nth}
use Rattle.chain.proofs.laws.First.{at-nothing}

pub nth-below : (l : List ℕ) (n : ℕ) → n < length l → nth l n ≡ Some (get_or l n 0)
unfolding nth
nth-below [] n h = absurd (omega arith)
nth-below (x ∷ xs) zero h = refl
nth-below (x ∷ xs) (suc n) h = nth-below xs n (omega arith)

pub nth-past : (l : List ℕ) (n : ℕ) → length l ≤ n → nth l n ≡ None
unfolding nth
nth-past [] n h = refl
nth-past (x ∷ xs) zero h = absurd (omega arith)
nth-past (x ∷ xs) (suc n) h = nth-past xs n (omega arith)

-- what holds of all places holds of the one at a number
pub nth-all : (P : ℕ → Type 0) (l : List ℕ) (n p : ℕ) → All P l → nth l n ≡ Some p → P p
unfolding nth
nth-all P [] n p a e = absurd (at-nothing (sym e))
nth-all P (x ∷ xs) zero p a e = let d : x ≡ p = cc in rw d at a.0
nth-all P (x ∷ xs) (suc n) p a e = nth-all P xs n p a.1 e

-- and what holds of the place at each number holds of all
pub all-of-nth : (P : ℕ → Type 0) (l : List ℕ) → ((n p : ℕ) → nth l n ≡ Some p → P p) → All P l
unfolding nth
all-of-nth P [] h = tt
all-of-nth P (x ∷ xs) h = (h 0 x refl, all-of-nth P xs (λ n p e. h (suc n) p e))
