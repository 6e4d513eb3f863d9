-- A judge goes by the paper's table: where each search finds the smallest place at which its row's rule is broken, the answer is a refusal with n at p exactly
-- where the table's first broken rule is n, first broken at p, and accepted exactly where no rule is broken. A search owes this only where every rule before
-- its own is unbroken. Assumes nothing.
use Rattle.std.specs.Prelude.{ℕ, List, [], ◌∷◌, ◌++◌, ◌↔◌, ◌≡◌, refl, Some, None, Ok, Err}
use Rattle.std.proofs.Common.{inl, inr, sym, ap, ◌∙◌, arith}
use Rattle.chain.specs.Finds.{Finds}
use Rattle.chain.specs.Found.{Found}
use Rattle.verdict.specs.Said.{fields, judged_said}
use Rattle.verdict.specs.Table.{Row, Unbroken, FirstBroken}
use Rattle.verdict.specs.Verdict.{refusal, refuse, answer}
use Rattle.verdict.specs.Answers.{Judged}

-- the searches, row by row
abbrev pub Searched : List Row → List (ℕ × Found) → Type 0
Searched [] [] = Unit {0}
Searched [] (x ∷ xs) = ⊥
Searched (r ∷ rs) [] = ⊥
Searched (r ∷ rs) (x ∷ xs) = (r.0 ≡ x.0) × Finds r.1 x.1 × (x.1 ≡ None → Searched rs xs)

-- a row of it: its search finds the smallest place, and so do those after it where it finds nothing
pub row : {n : ℕ} {A B : Type 0} → A → B → (n ≡ n) × A × B
row finds more = (refl, finds, more)

-- a refusal is no acceptance
refused-accepted : (n p m : ℕ) → refusal n p ≡ Ok m → ⊥
refused-accepted n p m e = let z : ◌≡◌ {A = ℕ} 1 0 = ap (λ (j : Judged). elim j [ Ok c ↦ 0 | Err r ↦ 1 ]) e in omega arith

-- where none of the first rows is broken, the first broken one is among the rest
pub first-after : (before after : List Row) (n p : ℕ) → Unbroken before → FirstBroken (before ++ after) n p → FirstBroken after n p
first-after [] after n p u b = b
first-after (r ∷ rs) after n p u (inl b) = absurd (u.0 p b.1.0)
first-after (r ∷ rs) after n p u (inr b) = first-after rs after n p u.1 b.1

module _ (m : ℕ) where
  -- ---- refused
  pub refused-first : (table : List Row) (l : List (ℕ × Found)) → Searched table l → (n p : ℕ) → answer l (Ok m) ≡ refusal n p → FirstBroken table n p
  refused-first [] [] w n p e = refused-accepted n p m (sym e)
  refused-first [] (x ∷ xs) w n p e = absurd w
  refused-first (r ∷ rs) [] w n p e = absurd w
  refused-first (r ∷ rs) (x ∷ xs) w n p e = go x.1 refl w.1 e (λ v d. refused-first rs xs v n p d)
    where
      go : (f : Found) → x.1 ≡ f → Finds r.1 f → refuse x.0 f (answer xs (Ok m)) ≡ refusal n p
          → (Searched rs xs → answer xs (Ok m) ≡ refusal n p → FirstBroken rs n p) → FirstBroken (r ∷ rs) n p
      go (Some q) d h e more =
          let i : x.0 ≡ n = ap (λ (j : Judged). (fields (judged_said j)).number) e in
          let at : q ≡ p = ap (λ (j : Judged). (fields (judged_said j)).place) e in
          inl (w.0 ∙ i, rw (sym at) h)
      go None d h e more = inr (h, more (w.2 d) e)

  pub first-refused : (table : List Row) (l : List (ℕ × Found)) → Searched table l → (n p : ℕ) → FirstBroken table n p → answer l (Ok m) ≡ refusal n p
  first-refused [] [] w n p b = absurd b
  first-refused [] (x ∷ xs) w n p b = absurd w
  first-refused (r ∷ rs) [] w n p b = absurd w
  first-refused (r ∷ rs) (x ∷ xs) w n p b = go x.1 refl w.1 b (λ v c. first-refused rs xs v n p c)
    where
      go : (f : Found) → x.1 ≡ f → Finds r.1 f → FirstBroken (r ∷ rs) n p → (Searched rs xs → FirstBroken rs n p → answer xs (Ok m) ≡ refusal n p)
          → refuse x.0 f (answer xs (Ok m)) ≡ refusal n p
      go (Some q) d h (inl b) more =
          let i : x.0 ≡ n = sym w.0 ∙ b.0 in
          let at : q ≡ p = omega (arith, h.1 p b.1.0, b.1.1 q h.0) in
          rw (i, at)
      go (Some q) d h (inr b) more = absurd (b.0 q h.0)
      go None d h (inl b) more = absurd (h p b.1.0)
      go None d h (inr b) more = more (w.2 d) b.1

  pub refused-exactly : (table : List Row) (l : List (ℕ × Found)) → Searched table l → (n p : ℕ) → (answer l (Ok m) ≡ refusal n p) ↔ FirstBroken table n p
  refused-exactly table l w n p = (refused-first table l w n p, first-refused table l w n p)

  -- ---- accepted
  pub accepted-unbroken : (table : List Row) (l : List (ℕ × Found)) → Searched table l → (c : ℕ) → answer l (Ok m) ≡ Ok c → Unbroken table × (m ≡ c)
  accepted-unbroken [] [] w c e = (tt, ap (λ (j : Judged). (fields (judged_said j)).value) e)
  accepted-unbroken [] (x ∷ xs) w c e = absurd w
  accepted-unbroken (r ∷ rs) [] w c e = absurd w
  accepted-unbroken (r ∷ rs) (x ∷ xs) w c e = go x.1 refl w.1 e (λ v d. accepted-unbroken rs xs v c d)
    where
      go : (f : Found) → x.1 ≡ f → Finds r.1 f → refuse x.0 f (answer xs (Ok m)) ≡ Ok c
          → (Searched rs xs → answer xs (Ok m) ≡ Ok c → Unbroken rs × (m ≡ c)) → Unbroken (r ∷ rs) × (m ≡ c)
      go (Some q) d h e more = absurd (refused-accepted x.0 q c e)
      go None d h e more = let z = more (w.2 d) e in ((h, z.0), z.1)

  pub unbroken-accepted : (table : List Row) (l : List (ℕ × Found)) → Searched table l → Unbroken table → answer l (Ok m) ≡ Ok m
  unbroken-accepted [] [] w u = refl
  unbroken-accepted [] (x ∷ xs) w u = absurd w
  unbroken-accepted (r ∷ rs) [] w u = absurd w
  unbroken-accepted (r ∷ rs) (x ∷ xs) w u = go x.1 refl w.1 (λ v. unbroken-accepted rs xs v u.1)
    where
      go : (f : Found) → x.1 ≡ f → Finds r.1 f → (Searched rs xs → answer xs (Ok m) ≡ Ok m) → refuse x.0 f (answer xs (Ok m)) ≡ Ok m
      go (Some q) d h more = absurd (u.0 q h.0)
      go None d h more = more (w.2 d)

  pub accepted-exactly : (table : List Row) (l : List (ℕ × Found)) → Searched table l → (c : ℕ) → (answer l (Ok m) ≡ Ok c) ↔ (Unbroken table × (m ≡ c))
  accepted-exactly table l w c =
      (accepted-unbroken table l w c, λ u. unbroken-accepted table l w u.0 ∙ ap Ok u.1)
