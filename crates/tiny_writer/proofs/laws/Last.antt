-- The pool of an accepted image is its last item: so the other items, and the pool made of its data after them, are the image's items in their order.
-- And where no item follows a pool, each pool reaches the end of the items. Assumes nothing.
use Rattle.std.specs.Prelude.{ℕ, ◌≤◌, Bool, true, false, List, [], ◌∷◌, ◌++◌, ◌≡◌, refl, length, drop, Option, Some, None, Ok}
use Rattle.std.proofs.lemmas.Bool.{false≢true}
use Rattle.std.proofs.Common.{inl, inr, sym, ap, ap₂, ◌∙◌, add-zero, arith, eqb-true}
use Rattle.chain.specs.All.{All}
use Rattle.chain.specs.Chain.{chain}
use Rattle.chain.specs.Keep.{keep}
use Rattle.chain.proofs.laws.All.{all-map}
use Rattle.chain.proofs.laws.Below.{below}
use Rattle.chain.proofs.laws.Chain.{chain-end, chain-more, chain-ind}
use Rattle.kinds.specs.Kinds.{all, full, listed}
use Rattle.kinds.specs.declared.Kind.TheVariants.{Tag}
use Rattle.octets.specs.Bytes.{byte, run}
use Rattle.octets.specs.Cut.{cut, Whole}
use Rattle.octets.proofs.laws.Bytes.{byte-run}
use Rattle.octets.proofs.laws.Cut.{cut-end, cut-more, cut-whole}
use Rattle.tiny_layout.specs.Layout.{check_place, head_size, data_length, size, next, items}
use Rattle.tiny_layout.proofs.laws.Layout.{size-some, size-own, next-grows}
use Rattle.tiny_rules.specs.Judged.{judged}
use Rattle.tiny_rules.proofs.laws.Accepted.{pool-last}
use Rattle.tiny_writer.specs.Image.{pool_items}
use Rattle.tiny_writer.specs.PartsOf.{is_pool, others, item_bytes, data_of, pool_of}
use Rattle.tiny_writer.specs.Run.{is_pool_tag}

-- no item follows a pool
abbrev pub PoolLast : List (List ℕ) → Type 0
PoolLast [] = Unit {0}
PoolLast (x ∷ xs) = (is_pool x ≡ true → xs ≡ []) × PoolLast xs

-- so it is where items that are no pools come before at most one pool
pub pool-after : (ys : List (List ℕ)) (pool : Option (List ℕ)) → All (λ y. is_pool y ≡ false) ys → PoolLast (ys ++ pool_items pool)
pool-after [] None a = tt
pool-after [] (Some pool) a = ((λ t. refl), tt)
pool-after (y ∷ ys) pool a = ((λ t. absurd (false≢true (sym a.0 ∙ t))), pool-after ys pool a.1)

-- an item of tag 01 is the tag, the length of its data, and its data
pool-item : (x : List ℕ) → Whole size x → byte x 0 ≡ 0x01 → 0x01 ∷ (length (drop 2 x) ∷ drop 2 x) ≡ x
unfolding head_size data_length
pool-item [] w e = absurd (omega arith)
pool-item (tag ∷ []) w e = absurd (omega (arith, rw e at w))
pool-item (tag ∷ (n ∷ bytes)) w e = ap₂ (λ (a b : ℕ). a ∷ (b ∷ bytes)) (sym e) (omega (arith, rw e at w))

-- the others, and then the pool made of its data, are the items in their order
rejoined : (xs : List (List ℕ)) → All (Whole size) xs → PoolLast xs → others xs ++ pool_items (data_of (keep is_pool xs)) ≡ xs
unfolding keep
rejoined [] w l = refl
rejoined (x ∷ xs) w l = go (is_pool x) refl (rejoined xs w.1 l.1)
  where
    go : (b : Bool) → is_pool x ≡ b → others xs ++ pool_items (data_of (keep is_pool xs)) ≡ xs
        → others (x ∷ xs) ++ pool_items (data_of (keep is_pool (x ∷ xs))) ≡ x ∷ xs
    go true e ih = rw (e, l.0 e) (ap (λ (y : List ℕ). y ∷ []) (pool-item x w.0 (eqb-true (byte x 0) 0x01 e)))
    go false e ih = rw e (ap (λ (ys : List (List ℕ)). x ∷ ys) ih)

-- whether the item at p is a pool is told by the byte there
item-pool : (s : List ℕ) (p : ℕ) → is_pool (run s p (size s p)) ≡ is_pool_tag (byte s p)
item-pool s p = ap is_pool_tag (byte-run s p (size s p) 0 (size-some s p) ∙ ap (byte s) (add-zero p))

-- ---- the items of an image from place p on, where each pool ends at the end of the items
abbrev EndsLast : List ℕ → ℕ → ℕ → Type 0
EndsLast s end q = byte s q ≡ 0x01 → next s q ≡ end

cut-last : (s : List ℕ) (end p : ℕ) → All (EndsLast s end) (chain (next s) end p) → PoolLast (cut size s end p)
unfolding next
cut-last s end =
    chain-ind (next s) end (next-grows s) (λ p. All (EndsLast s end) (chain (next s) end p) → PoolLast (cut size s end p))
    (λ p h a. rw (cut-end size size-some s end p h) tt)
    (λ p h ih a.
    let b : All (EndsLast s end) (p ∷ chain (next s) end (next s p)) = rw (chain-more (next s) end (next-grows s) p h) at a in
    rw (cut-more size size-some s end p h)
    ((λ t. cut-end size size-some s end (next s p) (omega (arith, b.0 (eqb-true (byte s p) 0x01 (sym (item-pool s p) ∙ t))))), ih b.1))

-- and the other way round: where no item follows a pool, each pool reaches the end of the items
abbrev pub ReachesEnd : List ℕ → ℕ → ℕ → Type 0
ReachesEnd s end q = is_pool_tag (byte s q) ≡ true → end ≤ next s q

pub last-reaches : (s : List ℕ) (end p : ℕ) → PoolLast (cut size s end p) → All (ReachesEnd s end) (chain (next s) end p)
unfolding next
last-reaches s end =
    chain-ind (next s) end (next-grows s) (λ p. PoolLast (cut size s end p) → All (ReachesEnd s end) (chain (next s) end p))
    (λ p h l. rw (chain-end (next s) end (next-grows s) p h) tt)
    (λ p h ih l.
    let m : PoolLast (run s p (size s p) ∷ cut size s end (next s p)) = rw (cut-more size size-some s end p h) at l in
    rw (chain-more (next s) end (next-grows s) p h) ((λ t. none-after (next s p) (m.0 (item-pool s p ∙ t))), ih m.1))
  where
    none-after : (p : ℕ) → cut size s end p ≡ [] → end ≤ p
    none-after p e =
        elim (below p end) [ inl k ↦ absurd (omega (arith, ap length (sym (cut-more size size-some s end p k) ∙ e))) | inr k ↦ k ]

-- ---- an accepted image
pool-listed : listed full (Tag 0x01) ≡ true
unfolding listed all
pool-listed = refl

-- its items are those that are no pool, and the pool after them
pub pool-rejoined : (s : List ℕ) (n : ℕ) → judged full s ≡ Ok n → others (item_bytes s) ++ pool_items (pool_of s) ≡ item_bytes s
unfolding pool_of next
pool-rejoined s n e =
    rejoined (item_bytes s) (cut-whole size size-some size-own s (check_place s) 3)
    (cut-last s (check_place s) 3
    (all-map (λ q. listed full (Tag 0x01) ≡ true → EndsLast s (check_place s) q) (EndsLast s (check_place s)) (λ q a. a pool-listed) (items s) (pool-last full s n e)))
