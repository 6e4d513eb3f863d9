-- Items end to end and the bytes of each: whole items laid one after the other are what the walk along them gives back, and what a walk gives,
-- where no item passes the end, is the bytes walked over. So `flatten` and `cut` are inverse to each other. Assumes nothing.
use Rattle.std.specs.Prelude.{ℕ, ◌+◌, ◌-◌, ◌≤◌, ◌<◌, ◌≡◌, refl}
use mathlib.Core.List.{List, [], ◌∷◌, ◌++◌, map, flatten, append_assoc}
use Rattle.std.proofs.Math.Path.{sym, ap}
use Rattle.std.proofs.Common.{◌∙◌, zero-add, get_or-append-add}
use native.Mathlib.Omega.{arith}
use Rattle.std.proofs.Math.ListN.{length, length-append, get_or-append}
use Rattle.chain.specs.All.{All}
use Rattle.chain.specs.Chain.{chain}
use Rattle.chain.specs.Fill.{tab}
use Rattle.chain.proofs.laws.Chain.{chain-end, chain-more, chain-ind}
use Rattle.octets.specs.Bytes.{byte, run}
use Rattle.octets.specs.Cut.{cut, Whole}
use Rattle.octets.proofs.laws.Bytes.{length-run, byte-run, run-append, run-between}

-- joined lists of items
pub flatten-append : (l m : List (List ℕ)) → flatten (l ++ m) ≡ flatten l ++ flatten m
unfolding flatten
flatten-append [] m = refl
flatten-append (x ∷ xs) m = ap (λ (b : List ℕ). x ++ b) (flatten-append xs m) ∙ sym (append_assoc x (flatten xs) (flatten m))

module _ (size : List ℕ → ℕ → ℕ) (some : (s : List ℕ) (p : ℕ) → 0 < size s p) where
  grows : (s : List ℕ) (p : ℕ) → p < p + size s p
  grows s p = omega (arith, some s p)

  -- from the end on there is no item
  pub cut-end : (s : List ℕ) (end p : ℕ) → end ≤ p → cut size s end p ≡ []
  cut-end s end p h = ap (map (λ q. run s q (size s q))) (chain-end (λ q. q + size s q) end (grows s) p h)

  -- before it, the item at p and those from its end on
  pub cut-more : (s : List ℕ) (end p : ℕ) → p < end → cut size s end p ≡ run s p (size s p) ∷ cut size s end (p + size s p)
  cut-more s end p h = ap (map (λ q. run s q (size s q))) (chain-more (λ q. q + size s q) end (grows s) p h)

  -- the bytes walked over
  pub flatten-cut : (s : List ℕ) (end p : ℕ) → All (λ q. q + size s q ≤ end) (chain (λ q. q + size s q) end p) → p ≤ end → flatten (cut size s end p) ≡ run s p (end - p)
  unfolding flatten tab
  flatten-cut s end =
      chain-ind (λ q. q + size s q) end (grows s)
      (λ p. All (λ q. q + size s q ≤ end) (chain (λ q. q + size s q) end p) → p ≤ end → flatten (cut size s end p) ≡ run s p (end - p))
      (λ p h fit k. let e : end - p ≡ 0 = omega arith in rw (cut-end s end p h, e))
      (λ p h ih fit k.
      let f : All (λ q. q + size s q ≤ end) (p ∷ chain (λ q. q + size s q) end (p + size s p)) =
      rw (chain-more (λ q. q + size s q) end (grows s) p h) at fit in
      let e : size s p + (end - (p + size s p)) ≡ end - p = omega (arith, f.0) in
      rw (cut-more s end p h)
      (ap (λ (l : List ℕ). run s p (size s p) ++ l) (ih f.1 f.0)
      ∙ sym (run-append s p (size s p) (end - (p + size s p))) ∙ ap (run s p) e))

  -- where the items' bytes reach just to the end, none passes it
  pub cut-fits : (s : List ℕ) (end p : ℕ) → p + length (flatten (cut size s end p)) ≡ end → All (λ q. q + size s q ≤ end) (chain (λ q. q + size s q) end p)
  unfolding flatten
  cut-fits s end =
      chain-ind (λ q. q + size s q) end (grows s)
      (λ p. p + length (flatten (cut size s end p)) ≡ end → All (λ q. q + size s q ≤ end) (chain (λ q. q + size s q) end p))
      (λ p h e. rw (chain-end (λ q. q + size s q) end (grows s) p h) tt)
      (λ p h ih e.
      let n : length (flatten (cut size s end p)) ≡ size s p + length (flatten (cut size s end (p + size s p))) =
      ap (λ (l : List (List ℕ)). length (flatten l)) (cut-more s end p h)
      ∙ length-append (run s p (size s p)) (flatten (cut size s end (p + size s p))) ∙ omega (arith, length-run s p (size s p)) in
      rw (chain-more (λ q. q + size s q) end (grows s) p h) (omega arith, ih (omega arith)))

  -- where the size of an item is read from its own bytes
  module _ (own : (s t : List ℕ) (p q : ℕ) → ((i : ℕ) → i < size s p → byte s (p + i) ≡ byte t (q + i)) → size t q ≡ size s p) where
    -- the bytes of an item are a whole item
    pub run-whole : (s : List ℕ) (p : ℕ) → Whole size (run s p (size s p))
    run-whole s p =
        own s (run s p (size s p)) p 0 (λ i h. rw zero-add (sym (byte-run s p (size s p) i h))) ∙ sym (length-run s p (size s p))

    -- each is a whole item
    pub cut-whole : (s : List ℕ) (end p : ℕ) → All (Whole size) (cut size s end p)
    cut-whole s end =
        chain-ind (λ q. q + size s q) end (grows s) (λ p. All (Whole size) (cut size s end p))
        (λ p h. rw (cut-end s end p h) tt)
        (λ p h ih. rw (cut-more s end p h) (run-whole s p, ih))

    -- the size of a whole item between other bytes
    pub size-between : (a x b : List ℕ) → Whole size x → size (a ++ (x ++ b)) (length a) ≡ length x
    size-between a x b w =
        own x (a ++ (x ++ b)) 0 (length a)
        (λ i h. rw zero-add (sym (get_or-append-add a (x ++ b) i 0 ∙ get_or-append x b 0 i (omega (arith, h, w))))) ∙ w

    -- the first of the items from a place on, which is a whole item x between other bytes
    cut-first : (a x b : List ℕ) (end : ℕ) → Whole size x → length a < end
        → cut size (a ++ (x ++ b)) end (length a) ≡ x ∷ cut size (a ++ x ++ b) end (length (a ++ x))
    cut-first a x b end w h =
        cut-more (a ++ (x ++ b)) end (length a) h
        ∙ rw (size-between a x b w, run-between a x b, append_assoc a x b, length-append a x)

    -- `cut-flatten` with the end by a name, and the bytes that follow beside the items
    cut-joined : (xs : List (List ℕ)) (a b : List ℕ) (end : ℕ) → end ≡ length a + length (flatten xs) → All (Whole size) xs → cut size (a ++ (flatten xs ++ b)) end (length a) ≡ xs
    unfolding flatten
    cut-joined [] a b end e w = cut-end (a ++ b) end (length a) (omega arith)
    cut-joined (x ∷ xs) a b end e w =
        rw (append_assoc x (flatten xs) b)
        (cut-first a x (flatten xs ++ b) end w.0 (omega (arith, some x 0, w.0, length-append x (flatten xs)))
        ∙ ap (λ (l : List (List ℕ)). x ∷ l)
        (cut-joined xs (a ++ x) b end (omega (arith, length-append a x, length-append x (flatten xs))) w.1))

    -- whole items end to end between other bytes
    pub cut-flatten : (xs : List (List ℕ)) (a b : List ℕ) → All (Whole size) xs → cut size (a ++ flatten xs ++ b) (length a + length (flatten xs)) (length a) ≡ xs
    cut-flatten xs a b w = rw (append_assoc a (flatten xs) b) (cut-joined xs a b (length a + length (flatten xs)) refl w)
