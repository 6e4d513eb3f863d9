-- Rules 6 to 9 find the smallest place at which their row of the paper's table is broken. Rules 6 to 8 look at an item's tag, and so does the search for the
-- pool; where rule 8 is not broken there is one pool at most, so rule 9 looks at the bytes of all of them. Assumes nothing.
use Rattle.std.specs.Prelude.{ℕ, ◌+◌, ◌≤◌, ◌<◌, Bool, false, ◌&&◌, ◌||◌, List, ◌⊎◌, ◌≡◌, refl, Some, None}
use Rattle.std.proofs.Math.Bool.{true}
use Rattle.std.proofs.Math.Logic.{inl, inr}
use Rattle.std.proofs.Common.{sym, subst, arith}
use Rattle.std.proofs.Math.Dec.{eqb, ltb}
use Rattle.chain.specs.Chain.{range}
use Rattle.chain.specs.Finds.{Among, Finds}
use Rattle.chain.specs.First.{first, when}
use Rattle.chain.specs.Found.{Found}
use Rattle.chain.proofs.laws.Among.{among-goes}
use Rattle.chain.proofs.laws.Apart.{among-behind}
use Rattle.chain.proofs.laws.Below.{below}
use Rattle.chain.proofs.laws.Finds.{finds-as, found-none, finds-range, finds-along, finds-starts}
use Rattle.chain.proofs.laws.Means.{Means, means-equal, means-under, means-above, means-false, means-both, means-either}
use Rattle.kinds.specs.declared.Kinds.{Kinds}
use Rattle.octets.specs.Bytes.{byte}
use Rattle.octets.specs.Label.{is_text}
use Rattle.tiny_layout.specs.Layout.{check_place, data_at, next, items}
use Rattle.tiny_layout.specs.Pool.{is_of, pool_place, pool_at, pool}
use Rattle.tiny_layout.specs.Strings.{letter}
use Rattle.tiny_layout.proofs.laws.Layout.{next-grows, item-within}
use Rattle.tiny_rules.specs.Broken.{PoolAt, Broken6, item_passes, length_byte_passes, Broken7, long_tag_zero, Broken8, pool_not_last, Broken9, no_character_there, last_unmarked}
use Rattle.tiny_rules.specs.Rules.{rule6, rule7, rule8, no_character, end_unmarked, unfit, rule9}

-- ---- the searches that the rules are made of
-- along the items: the smallest place of what each item's answer is the smallest place of
pub finds-items :
    (s : List ℕ) (B : ℕ → ℕ → Type 0) → ((p z : ℕ) → B p z → (p ≤ z) × (z ≤ next s p)) → (rule : ℕ → Found)
    → ((p : ℕ) → Finds (B p) (rule p)) → Finds (λ z. (p : ℕ) × (Among (items s) p × B p z)) (first rule (items s))
finds-items s B own rule each =
    finds-along rule (next s) (check_place s) (next-grows s) B own 3 (λ p a. each p)

-- a test of each item, whose place is the item's tag
finds-tags :
    (s : List ℕ) (B : ℕ → Type 0) (test : ℕ → Bool) → ((z : ℕ) → Among (items s) z → test z ≡ true → B z)
    → ((z : ℕ) → B z → Among (items s) z × (test z ≡ true)) → Finds B (first (λ p. when (test p) p) (items s))
finds-tags s B test = finds-starts test (next s) (check_place s) (next-grows s) B 3

-- a test of each byte from a up to b
pub finds-bytes :
    (B : ℕ → Type 0) (test : ℕ → Bool) (a b : ℕ) → ((z : ℕ) → a ≤ z → z < b → test z ≡ true → B z)
    → ((z : ℕ) → B z → (a ≤ z) × (z < b) × (test z ≡ true)) → Finds B (first (λ q. when (test q) q) (range a b))
finds-bytes B test a b to back =
    finds-as (λ z. (i : ℕ) × ((a ≤ i) × (i < b) × (z ≡ i) × (test i ≡ true))) B
    (λ z h. subst B (sym h.1.2) (to h.0 h.1.0 h.1.1 h.1.3))
    (λ z x. let h = back z x in (z, (h.0, h.1, refl, h.2))) (first (λ q. when (test q) q) (range a b))
    (finds-range test (λ q. q) (λ i j h. h) a b)

-- ---- the rules
module _ (k : Kinds) (s : List ℕ) where
  -- 6: an item, or its length byte, passes L - 1
  pub finds6 : Finds (Broken6 k s) (rule6 s)
  unfolding rule6
  finds6 =
      finds-tags s (Broken6 k s) (λ p. ltb (check_place s) (data_at s p) || ltb (check_place s) (next s p))
      (λ z a e. elim ((m z).0 e) [ inl h ↦ length_byte_passes a h | inr h ↦ item_passes a h ])
      (λ z b. elim b [ item_passes a h ↦ (a, (m z).1 (inr h)) | length_byte_passes a h ↦ (a, (m z).1 (inl h)) ])
    where
      m : (p : ℕ) → Means (ltb (check_place s) (data_at s p) || ltb (check_place s) (next s p)) ((check_place s < data_at s p) ⊎ (check_place s < next s p))
      m p = means-either (means-under (check_place s) (data_at s p)) (means-under (check_place s) (next s p))

  -- 7: long tag 00
  pub finds7 : Finds (Broken7 k s) (rule7 s)
  unfolding rule7
  finds7 =
      finds-tags s (Broken7 k s) (λ p. eqb (byte s p) 0x00) (λ z a t. long_tag_zero a ((means-equal (byte s z) 0x00).0 t))
      (λ z b. elim b [ long_tag_zero a e ↦ (a, (means-equal (byte s z) 0x00).1 e) ])

  -- an item is a listed pool
  means-pool : (p : ℕ) → Among (items s) p → Means (is_of k s 0x01 p) (PoolAt k s p)
  means-pool p a =
      let m = means-both (λ e. e, λ e. e) (means-equal (byte s p) 0x01) in
      (λ e. let t = m.0 e in ((a, rw t.1 t.0), t.1), λ h. m.1 (rw h.1 at h.0.1, h.1))

  -- the search for the pool finds the first one
  finds-pool : Finds (PoolAt k s) (pool_place k s)
  finds-pool = finds-tags s (PoolAt k s) (is_of k s 0x01) (λ z a. (means-pool z a).0) (λ z h. (h.0.0, (means-pool z h.0.0).1 h))

  -- 8: listed pool is not the last item
  pub finds8 : Finds (Broken8 k s) (rule8 k s)
  unfolding rule8
  finds8 =
      finds-tags s (Broken8 k s) (λ p. is_of k s 0x01 p && ltb (next s p) (check_place s))
      (λ z a e. let t = (m z a).0 e in pool_not_last t.0 (next s z) (among-goes (next s) (check_place s) (next-grows s) 3 z a t.1) (next-grows s z))
      (λ z b.
      elim b [
        | pool_not_last l p a h ↦ (
          l.0.0,
          (m z l.0.0).1 (l, omega (arith, among-behind (next s) (check_place s) (next-grows s) 3 z p l.0.0 a h, item-within s a.0 p a.1)),
        )
      ])
    where
      m : (p : ℕ) → Among (items s) p → Means (is_of k s 0x01 p && ltb (next s p) (check_place s)) (PoolAt k s p × (next s p < check_place s))
      m p a = means-both (means-pool p a) (means-under (next s p) (check_place s))

  -- where it is not broken, no listed pool lies before another
  pool-alone : rule8 k s ≡ None → (p q : ℕ) → PoolAt k s p → PoolAt k s q → p ≤ q
  pool-alone e p q a b =
      elim (below q p) [ inl h ↦ absurd (found-none (Broken8 k s) (rule8 k s) finds8 e q (pool_not_last b p a.0.0 h)) | inr h ↦ h ]

  -- a byte that no pool has which ends at `to`
  abbrev Unfit : ℕ → ℕ → Type 0
  Unfit to z = (is_text (letter (byte s z)) ≡ false) ⊎ ((z + 1 ≡ to) × (byte s z < 128))

  means-unfit : (to z : ℕ) → Means (no_character s z || end_unmarked s to z) (Unfit to z)
  means-unfit to z = means-either (means-false (is_text (letter (byte s z)))) (means-both (means-equal (z + 1) to) (means-above (byte s z) 128))

  -- 9: listed pool: a byte's low seven bits not 20h to 7Eh; last byte unmarked
  pub finds9 : rule8 k s ≡ None → Finds (Broken9 k s) (rule9 k s)
  unfolding rule9 pool
  finds9 e = go (pool_place k s) finds-pool
    where
      go : (f : Found) → Finds (PoolAt k s) f → Finds (Broken9 k s) (first (unfit s (pool_at s f).to) (range (pool_at s f).from (pool_at s f).to))
      go (Some p) h =
          finds-bytes (Broken9 k s) (λ q. no_character s q || end_unmarked s (next s p) q) (data_at s p) (next s p) to
          (λ z b. elim b [ no_character_there q l i j c ↦ at-pool q z l i j (inl c) | last_unmarked q l i j c ↦ at-pool q z l i (omega arith) (inr (j, c)) ])
        where
          to : (z : ℕ) → data_at s p ≤ z → z < next s p → no_character s z || end_unmarked s (next s p) z ≡ true → Broken9 k s z
          to z i j t =
              elim ((means-unfit (next s p) z).0 t) [ inl c ↦ no_character_there p h.0 i j c | inr c ↦ last_unmarked p h.0 i c.0 c.1 ]

          -- a byte of a listed pool is a byte of the one at p
          at-pool : (q z : ℕ) → PoolAt k s q → data_at s q ≤ z → z < next s q → Unfit (next s q) z
              → (data_at s p ≤ z) × (z < next s p) × (no_character s z || end_unmarked s (next s p) z ≡ true)
          at-pool q z l i j c =
              subst (λ (x : ℕ). (data_at s x ≤ z) × (z < next s x) × (no_character s z || end_unmarked s (next s x) z ≡ true))
              (omega (arith, pool-alone e q p l h.0, h.1 q l)) (i, j, (means-unfit (next s q) z).1 c)
      go None h =
          finds-bytes (Broken9 k s) (λ q. no_character s q || end_unmarked s 0 q) 0 0 (λ z i j t. absurd (omega arith))
          (λ z b. absurd (elim b [ no_character_there q l i j c ↦ h q l | last_unmarked q l i j c ↦ h q l ]))
