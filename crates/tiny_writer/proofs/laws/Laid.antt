-- The bytes that a run's items take in an image, from one item to the next, and what their measure tells. Assumes nothing.
use Rattle.std.specs.Prelude.{ℕ, ◌+◌, ◌≤◌, ◌<◌, ◌≡◌, refl, length, Some, None, Ok, Err}
use mathlib.Core.List.{List, [], ◌++◌, map, flatten}
use Rattle.std.proofs.Common.{sym, ap, ap₂, ◌∙◌, arith, length-append}
use Rattle.chain.specs.Found.{Found}
use Rattle.octets.specs.Bytes.{byte, run}
use Rattle.octets.proofs.laws.Bytes.{length-run}
use Rattle.octets.proofs.laws.Cut.{cut-end, cut-more}
use Rattle.tiny_layout.specs.Layout.{head_size}
use Rattle.tiny_writer.specs.Building.{laid_at, laid_from, measured_if, measured}
use Rattle.tiny_writer.specs.Run.{run_size, rule46, laid}
use Rattle.tiny_writer.proofs.laws.Run.{run-some, laid-at}
use Rattle.verdict.specs.declared.Refusal.{Refusal}

-- from the end on there are none
pub laid-end : (r : List ℕ) (p : ℕ) → length r ≤ p → laid_from r p ≡ []
unfolding laid_from flatten
laid-end r p h = ap (λ (l : List (List ℕ)). flatten (map laid l)) (cut-end run_size run-some r (length r) p h)

-- before it, those of the item at p, and those from its end on
pub laid-more : (r : List ℕ) (p : ℕ) → p < length r → laid_from r p ≡ laid_at r p ++ laid_from r (p + run_size r p)
unfolding laid_at laid_from flatten
laid-more r p h = ap (λ (l : List (List ℕ)). flatten (map laid l)) (cut-more run_size run-some r (length r) p h)

-- how many the item at p takes: its head and its data
pub laid-length : (r : List ℕ) (p : ℕ) → length (laid_at r p) ≡ head_size (byte r p) + byte r (p + 1)
unfolding laid_at
laid-length r p =
    ap length (laid-at r p) ∙ length-append (run r p (head_size (byte r p))) (run r (p + 2) (byte r (p + 1)))
    ∙ omega (arith, length-run r p (head_size (byte r p)), length-run r (p + 2) (byte r (p + 1)))

-- its head and its data
pub laid-parts : (r : List ℕ) (p : ℕ) (head rest : List ℕ) → head ≡ run r p (head_size (byte r p))
    → rest ≡ run r (p + 2) (byte r (p + 1)) → head ++ rest ≡ laid_at r p
unfolding laid_at
laid-parts r p head rest e d = ap₂ (λ (a b : List ℕ). a ++ b) e d ∙ sym (laid-at r p)

-- from one item to the next
pub laid-step : (r : List ℕ) (p : ℕ) → p < length r → length (laid_from r p) ≡ head_size (byte r p) + byte r (p + 1) + length (laid_from r (p + run_size r p))
laid-step r p h =
    ap length (laid-more r p h) ∙ length-append (laid_at r p) (laid_from r (p + run_size r p))
    ∙ omega (arith, laid-length r p)

-- a refusal is 46 at the first bad item
pub measured-bad : (r : List ℕ) (e : Refusal) → Err e ≡ measured r → (rule46 r ≡ Some e.place) × (e ≡ record { number = 46; place = e.place })
unfolding measured
measured-bad r e = go (rule46 r)
  where
    go : (f : Found) → Err e ≡ measured_if r f → (f ≡ Some e.place) × (e ≡ record { number = 46; place = e.place })
    go (Some m) d =
        let k : e ≡ record { number = 46; place = m } = cc in
        let at : m ≡ e.place = ap (λ (q : Refusal). q.place) (sym k) in
        (ap Some at, k ∙ ap (λ (p : ℕ). record { number = 46; place = p }) at)
    go None d = cc

-- without one, 46 is not broken, and the bytes are counted
pub measured-good : (r : List ℕ) (n : ℕ) → Ok n ≡ measured r → (rule46 r ≡ None) × (n ≡ length (laid_from r 0))
unfolding measured
measured-good r n = go (rule46 r)
  where
    go : (f : Found) → Ok n ≡ measured_if r f → (f ≡ None) × (n ≡ length (laid_from r 0))
    go (Some m) e = cc
    go None e = (refl, cc)
