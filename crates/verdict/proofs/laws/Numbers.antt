-- The number of a writer's refusal is one of its table's, or comes from what follows the table. Assumes nothing.
use Rattle.std.specs.Prelude.{ℕ, ◌≡◌, refl, Some, None, Ok}
use mathlib.Core.List.{List, [], ◌∷◌, ◌++◌, map, append-nil, Memᴰ}
use Rattle.std.proofs.Common.{subst, arith}
use Rattle.chain.specs.Found.{Found}
use Rattle.verdict.specs.Said.{refused, write_said}
use Rattle.verdict.specs.Verdict.{refuse, answer}
use Rattle.verdict.specs.Written.{written_if}
use Rattle.verdict.specs.Answers.{Judged}
use Rattle.verdict.proofs.laws.Accepted.{Clear}

module _ (bytes buffer : List ℕ) (n p : ℕ) where
  -- a writer of these bytes, judged so, refuses with n at p
  abbrev pub Refuses : Judged → Type 0
  Refuses j = write_said (written_if bytes buffer j).0 ≡ refused n p

  -- n is the number of a rule of the table, or the table is clear and what comes after it refuses with n
  pub table-number : (l : List (ℕ × Found)) (j : Judged) (ms : List ℕ) → (Clear l → Refuses j → Memᴰ n ms)
      → Refuses (answer l j) → Memᴰ n (map (λ r. r.0) l ++ ms)
  table-number [] j ms after e = after tt e
  table-number (r ∷ rs) j ms after e = go r.1 e (λ d. table-number rs j ms (λ c. after (d, c)))
    where
      go : (f : Found) → Refuses (refuse r.0 f (answer rs j)) → (f ≡ None → Refuses (answer rs j) → Memᴰ n (map (λ s. s.0) rs ++ ms))
          → Memᴰ n (r.0 ∷ (map (λ s. s.0) rs ++ ms))
      go (Some q) e later = let k : n ≡ r.0 = cc in Memᴰ.head k
      go None e later = Memᴰ.tail (later refl e)

  -- an acceptance is no refusal
  no-refusal : (count : ℕ) → Refuses (Ok count) → ⊥
  no-refusal count e = let z : ◌≡◌ {A = ℕ} 0 1 = cc in omega arith

  -- where nothing but an acceptance comes after the table, n is the number of one of its rules
  pub rules-number : (l : List (ℕ × Found)) (count : ℕ) → Refuses (answer l (Ok count)) → Memᴰ n (map (λ r. r.0) l)
  rules-number l count e =
      let numbers : List ℕ = map (λ r. r.0) l in
      subst (Memᴰ n) (append-nil numbers) (table-number l (Ok count) [] (λ _ k. absurd (no-refusal count k)) e)
