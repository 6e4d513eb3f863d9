-- The pool that a reader uses: the data of a listed item of tag 01 between the header and the check byte, or empty at place 0. `pool-view` turns a
-- claim about the pool into these two cases. Of the list only the mark of 01 matters. Assumes nothing.
use Rattle.std.specs.Prelude.{ℕ, ◌≤◌, ◌<◌, Bool, true, false, ◌&&◌, List, ◌≡◌, refl, eqb, Some, None}
use Rattle.std.proofs.Math.Bool.{and-eq-true_iff}
use Rattle.std.proofs.Math.Path.{ap}
use Rattle.std.proofs.Common.{subst, ◌∙◌, eqb-true}
use native.Mathlib.Omega.{arith}
use Rattle.chain.specs.All.{All}
use Rattle.chain.specs.First.{first, when}
use Rattle.chain.specs.Found.{Found}
use Rattle.chain.proofs.laws.All.{all-of}
use Rattle.chain.proofs.laws.First.{Hit, first-hit, first-none, hit-holds, when-test, when-place}
use Rattle.kinds.specs.Kinds.{listed}
use Rattle.kinds.specs.declared.Kind.TheVariants.{Tag}
use Rattle.kinds.specs.declared.Kinds.{Kinds}
use Rattle.octets.specs.Bytes.{byte, Octets}
use Rattle.tiny_layout.specs.Layout.{check_place, data_at, next, items}
use Rattle.tiny_layout.specs.Pool.{known_of, pool_at, pool}
use Rattle.tiny_layout.specs.declared.Pool.{Pool}
use Rattle.tiny_layout.proofs.laws.Layout.{head-bounds, data-within, length-bound, items-within}

-- a known item of this tag starts at p: between the header and the check byte, its tag on the list
pub record Known (k : Kinds) (s : List ℕ) (tag p : ℕ) : Type 0 where
  pub from : 3 ≤ p
  pub to : p < check_place s
  pub mark : listed k (Tag tag) ≡ true
  pub own : byte s p ≡ tag

module _ (k : Kinds) (s : List ℕ) (tag p : ℕ) where
  -- what a search for a known item finds has this tag, which is on the list; and what holds of each item holds of it
  pub known-holds : (P : ℕ → Type 0) → All P (items s) → first (known_of k s tag) (items s) ≡ Some p → (listed k (Tag tag) ≡ true) × (byte s p ≡ tag) × P p
  known-holds P a e =
      let h : Hit (known_of k s tag) (items s) p = first-hit (known_of k s tag) (items s) p e in
      let q = h.item in
      let test : Bool = listed k (Tag tag) && eqb (byte s q) tag in
      let t = (and-eq-true_iff (listed k (Tag tag)) (eqb (byte s q) tag)).0 (when-test test q p h.breaks) in
      subst (λ (x : ℕ). (listed k (Tag tag) ≡ true) × (byte s x ≡ tag) × P x) (when-place test q p h.breaks)
      (t.0, eqb-true (byte s q) tag t.1, hit-holds (known_of k s tag) P (items s) p a h)

  -- so it is a known item
  pub known-found : first (known_of k s tag) (items s) ≡ Some p → Known k s tag p
  known-found e =
      let h = known-holds (λ q. (3 ≤ q) × (q < check_place s)) (items-within s) e in
      record { from = h.2.0; to = h.2.1; mark = h.0; own = h.1 }

-- a claim about the pool, shown of the empty one and of the data of a listed pool item, holds
pub pool-view :
    (k : Kinds) (s : List ℕ) (P : Pool → Type 0) → P (record { from = 0; to = 0 })
    → ((p : ℕ) → first (known_of k s 0x01) (items s) ≡ Some p → 3 ≤ p → p < check_place s → listed k (Tag 0x01) ≡ true → byte s p ≡ 1 → P (record { from = data_at s p; to = next s p }))
    → P (pool k s)
unfolding pool
pool-view k s P none some = go (first (known_of k s 0x01) (items s)) refl
  where
    go : (f : Found) → first (known_of k s 0x01) (items s) ≡ f → P (pool_at s f)
    go (Some p) e = let i = known-found k s 0x01 p e in some p e i.from i.to i.mark i.own
    go None e = none

-- the pool by the mark of 01 on the list
abbrev pub pool_by : List ℕ → Bool → Pool
pool_by s b = pool_at s (first (λ p. when (b && eqb (byte s p) 0x01) p) (items s))

module _ (k : Kinds) (s : List ℕ) where
  -- without 01 on the list there is none
  pub no-pool : listed k (Tag 0x01) ≡ false → pool k s ≡ record { from = 0; to = 0 }
  unfolding pool
  no-pool e =
      ap (pool_by s) e
      ∙ ap (pool_at s) (first-none (λ p. None) (items s) (all-of (λ p. None ≡ None) (λ p. refl) (items s)))

  -- it ends at its start or further on
  pub pool-order : (pool k s).from ≤ (pool k s).to
  pool-order = pool-view k s (λ x. x.from ≤ x.to) (omega arith) (λ p e h j m b. data-within s p)

  -- and both places fit in sixteen bits
  pub pool-bounds : Octets s → ((pool k s).from < 65536) × ((pool k s).to < 65536)
  unfolding next
  pool-bounds octets =
      pool-view k s (λ x. (x.from < 65536) × (x.to < 65536)) (omega arith, omega arith)
      (λ p e h j m b.
      let far : next s p < 65536 = omega (arith, head-bounds (byte s p), length-bound s p octets, octets 2) in
      (omega (arith, data-within s p), far))

-- two lists that agree on 01 have one pool
pub pool-lists : (k m : Kinds) (s : List ℕ) → listed k (Tag 0x01) ≡ listed m (Tag 0x01) → pool k s ≡ pool m s
unfolding pool
pool-lists k m s e = ap (pool_by s) e
