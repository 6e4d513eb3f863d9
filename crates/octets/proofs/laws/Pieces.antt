-- Pieces of one size d, end to end: how many bytes they have, the places where they start, and a run cut into such pieces. Assumes nothing.
use Rattle.std.specs.Prelude.{ℕ, zero, suc, ◌+◌, ◌*◌, ◌<◌, ◌≡◌, refl, length, get_or, Some}
use mathlib.Core.List.{List, [], ◌∷◌, ◌++◌, map, flatten, append-nil, map-append}
use Rattle.std.proofs.Common.{sym, ap, ◌∙◌, zero-mul, arith, length-append, ext_get_or}
use Rattle.chain.specs.Chain.{chain, ahead}
use Rattle.chain.specs.Fill.{tab}
use Rattle.chain.proofs.laws.Fill.{length-tab, get_or-tab}
use Rattle.chain.proofs.laws.Nth.{nth-below}
use Rattle.chain.proofs.laws.Steps.{steps-count, steps-nth}
use Rattle.octets.specs.Bytes.{run}
use Rattle.octets.proofs.laws.Bytes.{run-append}
use Rattle.octets.proofs.laws.Cut.{flatten-append}

-- n + 1 pieces: n, and the last
pub flat-more : (f : ℕ → List ℕ) (n : ℕ) → flatten (tab f (suc n)) ≡ flatten (tab f n) ++ f n
unfolding tab flatten
flat-more f n = flatten-append (tab f n) (f n ∷ []) ∙ ap (λ (l : List ℕ). flatten (tab f n) ++ l) (append-nil (f n))

-- n pieces of d bytes have n * d
pub flat-length : (f : ℕ → List ℕ) (d n : ℕ) → ((k : ℕ) → length (f k) ≡ d) → length (flatten (tab f n)) ≡ n * d
unfolding tab flatten
flat-length f d zero size = omega arith
flat-length f d (suc n) size =
    ap length (flat-more f n) ∙ length-append (flatten (tab f n)) (f n) ∙ omega (arith, flat-length f d n size, size n)

-- n pieces of a run are the run
pub flat-runs : (r : List ℕ) (d p n : ℕ) → flatten (tab (λ k. run r (p + k * d) d) n) ≡ run r p (n * d)
unfolding tab flatten
flat-runs r d p zero = ap (run r p) (sym (zero-mul d))
flat-runs r d p (suc n) =
    let e : n * d + d ≡ suc n * d = omega arith in
    flat-more (λ k. run r (p + k * d) d) n ∙ ap (λ (l : List ℕ). l ++ run r (p + n * d) d) (flat-runs r d p n)
    ∙ sym (run-append r p (n * d) d) ∙ ap (run r p) e

-- what is made of each of a row
pub map-tab : {A : Type 0} {B : Type 0} (g : A → B) (f : ℕ → A) (n : ℕ) → map g (tab f n) ≡ tab (λ k. g (f k)) n
unfolding tab
map-tab g f zero = refl
map-tab {A} {B} g f (suc n) =
    map-append g (tab f n) (f n ∷ []) ∙ ap (λ (l : List B). l ++ (g (f n) ∷ [])) (map-tab g f n)

-- items of one size start at p, p + d and so on
pub steps-tab : (d : ℕ) → 0 < d → (n p end : ℕ) → end ≡ p + n * d → chain (ahead d) end p ≡ tab (λ k. p + k * d) n
steps-tab d pos n p end e =
    let l : List ℕ = chain (ahead d) end p in
    let long : length l ≡ n = steps-count d pos n p end e in
    ext_get_or 0 l (tab (λ k. p + k * d) n) (long ∙ sym (length-tab (λ k. p + k * d) n))
    (λ k h.
    let at : Some (get_or l k 0) ≡ Some (p + k * d) = sym (nth-below l k h) ∙ steps-nth d pos n p end k e (omega arith) in
    let same : get_or l k 0 ≡ p + k * d = cc in
    same ∙ sym (get_or-tab (λ i. p + i * d) n k 0 (omega arith)))
