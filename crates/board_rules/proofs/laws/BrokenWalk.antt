-- Rules 23 and 24 find the smallest place where the paper's rows are broken: what is asked of each structure in turn is answered from its start up to the next
-- one's. A structure that is due past StructLen has no room there. Assumes nothing.
use Rattle.std.specs.Prelude.{ℕ, ◌+◌, ◌-◌, ◌≤◌, ◌<◌, Bool, cond, List, [], ◌∷◌, ◌≡◌, None}
use Rattle.std.proofs.Math.Bool.{true, false}
use Rattle.std.proofs.Common.{inl, inr, sym, subst, arith, eqb-true}
use Rattle.std.proofs.Math.Path.{refl}
use Rattle.std.proofs.Math.Dec.{eqb}
use Rattle.std.proofs.lemmas.Bool.{eqb-false}
use Rattle.board_layout.specs.Layout.{length_at, struct_len, end_at, next}
use Rattle.board_layout.specs.Places.{head_size}
use Rattle.board_layout.proofs.laws.Layout.{next-grows, end-next}
use Rattle.board_rules.specs.Broken.{StructureAt, DueAt, Broken23, Broken24}
use Rattle.board_rules.specs.Rules.{misplaced, rule23, gap_used, rule24}
use Rattle.chain.specs.Finds.{Finds}
use Rattle.chain.proofs.laws.Among.{among-goes}
use Rattle.chain.proofs.laws.Below.{below}
use Rattle.chain.proofs.laws.Clauses.{Clause, test, over, under, other, several}
use Rattle.chain.proofs.laws.Finds.{finds-as, finds-along}
use Rattle.chain.proofs.laws.Means.{means-most, means-other, means-both}
use Rattle.kinds.specs.declared.Kinds.{Kinds}
use Rattle.octets.specs.Bytes.{byte}
use Rattle.octets.specs.Label.{dollar}
use Rattle.octets.specs.Runs.{nonzero}
use Rattle.octets.proofs.laws.Runs.{finds-nonzero}

module _ (k : Kinds) (s : List ℕ) where
  -- ---- rule 23: the clauses of one structure, at its start and at the next one's
  abbrev placed : ℕ → Clause
  placed p =
      several
      (over (λ z. z + head_size) (struct_len s) p
      ∷ other (byte s) dollar p
      ∷ under (length_at s) head_size p
      ∷ over (end_at s) (struct_len s) p
      ∷ test (λ z. (end_at s p ≡ struct_len s → ⊥) × (struct_len s ≤ z)) (next s p)
      (means-both (means-other (end_at s p) (struct_len s)) (means-most (struct_len s) (next s p)))
      ∷ [])
      p (next s p) (omega (arith, next-grows s p))

  -- which rule 23 asks of it
  finds-misplaced : (p : ℕ) → Finds (placed p).broken (misplaced s p)
  unfolding misplaced
  finds-misplaced p = (placed p).finds

  -- some structure is misplaced at z
  abbrev Misplaced : ℕ → Type 0
  Misplaced z = (p : ℕ) × (StructureAt k s p × (placed p).broken z)

  -- where it is misplaced a structure is due
  misplaced-due : (z : ℕ) → Misplaced z → Broken23 k s z
  misplaced-due z (p, (a, inl (i, h))) = Broken23.no_room (inl (subst (StructureAt k s) (sym i) a)) h
  misplaced-due z (p, (a, inr (inl (i, h)))) = Broken23.no_dollar (inl (subst (StructureAt k s) (sym i) a)) h
  misplaced-due z (p, (a, inr (inr (inl (i, h))))) = Broken23.length_under (inl (subst (StructureAt k s) (sym i) a)) h
  misplaced-due z (p, (a, inr (inr (inr (inl (i, h)))))) = Broken23.end_past (inl (subst (StructureAt k s) (sym i) a)) h
  misplaced-due z (p, (a, inr (inr (inr (inr (inl (i, h))))))) = Broken23.no_room (inr (p, (a, h.0, i))) (omega (arith, h.1))
  misplaced-due z (p, (a, inr (inr (inr (inr (inr h)))))) = absurd h

  -- and one that is due is there, or past StructLen
  due-misplaced : (q : ℕ) → DueAt k s q → (placed q).broken q → Misplaced q
  due-misplaced q (inl a) h = (q, (a, h))
  due-misplaced q (inr (r, (a, more, i))) h =
      elim (below q (struct_len s)) [
        | inl l ↦ (q, (subst (StructureAt k s) (sym i) (among-goes (next s) (struct_len s) (next-grows s) 0 r a (omega (arith, i, l))), h))
        | inr l ↦ (r, (a, inr (inr (inr (inr (inl (i, (more, l))))))))
      ]

  pub finds23 : Finds (Broken23 k s) (rule23 s)
  unfolding rule23
  finds23 =
      finds-as Misplaced (Broken23 k s) misplaced-due back (rule23 s)
      (finds-along (misplaced s) (next s) (struct_len s) (next-grows s) (λ p. (placed p).broken) (λ p. (placed p).within) 0 (λ p a. finds-misplaced p))
    where
      back : (q : ℕ) → Broken23 k s q → Misplaced q
      back q (Broken23.no_room d h) = due-misplaced q d (inl (refl, h))
      back q (Broken23.no_dollar d h) = due-misplaced q d (inr (inl (refl, h)))
      back q (Broken23.length_under d h) = due-misplaced q d (inr (inr (inl (refl, h))))
      back q (Broken23.end_past d h) = due-misplaced q d (inr (inr (inr (inl (refl, h)))))

  -- ---- rule 24: between the end of the structure at p and the next one
  abbrev GapAt : ℕ → ℕ → Type 0
  GapAt p z = (end_at s p ≡ struct_len s → ⊥) × (end_at s p ≤ z) × (z < next s p) × (byte s z ≡ 0 → ⊥)

  -- that is within its reach
  gap-own : (p z : ℕ) → GapAt p z → (p ≤ z) × (z ≤ next s p)
  unfolding end_at
  gap-own p z h = (omega (arith, h.1), omega (arith, h.2))

  -- what rule 24 asks of it finds the first such byte
  finds-gap : (p : ℕ) → Finds (GapAt p) (gap_used s p)
  unfolding gap_used
  finds-gap p = go (eqb (end_at s p) (struct_len s)) refl
    where
      go : (b : Bool) → eqb (end_at s p) (struct_len s) ≡ b → Finds (GapAt p) (cond b None (nonzero s (end_at s p) 0 (next s p - end_at s p)))
      go true d = λ z h. h.0 (eqb-true (end_at s p) (struct_len s) d)
      go false d =
          finds-as (λ z. (end_at s p + 0 ≤ z) × (z < end_at s p + (next s p - end_at s p)) × (byte s z ≡ 0 → ⊥)) (GapAt p)
          (λ z h. (eqb-false (end_at s p) (struct_len s) d, omega (arith, h.0), omega (arith, h.1, end-next s p), h.2))
          (λ z h. (omega (arith, h.1), omega (arith, h.2, end-next s p), h.3)) (nonzero s (end_at s p) 0 (next s p - end_at s p))
          (finds-nonzero s (end_at s p) 0 (next s p - end_at s p))

  pub finds24 : Finds (Broken24 k s) (rule24 s)
  unfolding rule24
  finds24 =
      finds-as (λ z. (p : ℕ) × (StructureAt k s p × GapAt p z)) (Broken24 k s) to back (rule24 s)
      (finds-along (gap_used s) (next s) (struct_len s) (next-grows s) GapAt gap-own 0 (λ p a. finds-gap p))
    where
      to : (z : ℕ) → (p : ℕ) × (StructureAt k s p × GapAt p z) → Broken24 k s z
      to z (p, (a, (more, from, up, set))) = Broken24.gap_nonzero p a more from up set

      back : (z : ℕ) → Broken24 k s z → (p : ℕ) × (StructureAt k s p × GapAt p z)
      back z (Broken24.gap_nonzero p a more from up set) = (p, (a, (more, from, up, set)))
