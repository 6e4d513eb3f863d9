-- The laws of `tab` and of a buffer that is filled from the front by a loop. Assumes nothing.
use Prim.Native.Nat.{ℕ, zero, suc, ◌+◌, ◌-◌, ◌≤◌, ◌<◌}
use mathlib.Core.List.{List, [], ◌∷◌, ◌++◌, append-nil, append_assoc}
use Rattle.std.proofs.Math.Logic.{inl, inr}
use Rattle.std.specs.Prelude.{◌≡◌, set}
use Rattle.std.proofs.Math.Path.{refl, sym, ap, ap₂}
use Rattle.std.proofs.Common.{◌∙◌, add-one, length-drop}
use Rattle.std.proofs.Math.Nat.{add-zero, add-suc}
use native.Mathlib.Omega.{arith}
use Rattle.std.proofs.Math.ListN.{length, get_or, drop, length-append, get_or-append}
use Rattle.std.proofs.Math.ListN.{drop_of_length-le}
use Rattle.std.proofs.Math.Seq.{drop-cons, get_or-append-add, get_or-drop}
use Rattle.std.proofs.lemmas.List.{set_at, get_or_at}
use Rattle.chain.specs.Fill.{tab, filled}
use Rattle.chain.proofs.laws.Below.{below}

module _ {A : Type 0} where
  pub length-tab : (f : ℕ → A) (n : ℕ) → length (tab f n) ≡ n
  unfolding tab
  length-tab f zero = refl
  length-tab f (suc n) = length-append (tab f n) (f n ∷ []) ∙ omega (arith, length-tab f n)

  pub get_or-tab : (f : ℕ → A) (n i : ℕ) (d : A) → i < n → get_or (tab f n) i d ≡ f i
  unfolding tab
  get_or-tab f zero i d h = absurd (omega arith)
  get_or-tab f (suc n) i d h =
      elim (below i n) [
        | inl k ↦ get_or-append (tab f n) (f n ∷ []) d i (omega (arith, length-tab f n)) ∙ get_or-tab f n i d k
        | inr k ↦ let e : i ≡ n = omega arith in rw e (get_or_at (tab f n) (f n) [] d n (length-tab f n))
      ]

  -- two functions that agree below n
  pub tab-agree : (f g : ℕ → A) (n : ℕ) → ((i : ℕ) → i < n → f i ≡ g i) → tab f n ≡ tab g n
  unfolding tab
  tab-agree f g zero h = refl
  tab-agree f g (suc n) h =
      ap₂ (λ (l : List A) (x : A). l ++ (x ∷ [])) (tab-agree f g n (λ i k. h i (omega arith))) (h n (omega arith))

  -- n + 1 values from place p on: the one at p, and n from the next place on
  pub tab-front : (f : ℕ → A) (n : ℕ) → tab f (suc n) ≡ f 0 ∷ tab (λ i. f (suc i)) n
  unfolding tab
  tab-front f zero = refl
  tab-front f (suc n) = ap (λ (l : List A). l ++ (f (suc n) ∷ [])) (tab-front f n)

  pub tab-from : (f : ℕ → A) (p n : ℕ) → tab (λ i. f (p + i)) (suc n) ≡ f p ∷ tab (λ i. f (p + 1 + i)) n
  tab-from f p n =
      tab-front (λ i. f (p + i)) n
      ∙ ap₂ (λ (x : A) (l : List A). x ∷ l) (ap f (omega arith)) (tab-agree (λ i. f (p + suc i)) (λ i. f (p + 1 + i)) n (λ i h. ap f (omega arith)))

  -- m + n values: m, and n from there on
  pub tab-append : (f : ℕ → A) (m n : ℕ) → tab f (m + n) ≡ tab f m ++ tab (λ i. f (m + i)) n
  unfolding tab
  tab-append f m zero = rw add-zero (sym (append-nil (tab f m)))
  tab-append f m (suc n) =
      rw add-suc
      (ap (λ (l : List A). l ++ (f (m + n) ∷ [])) (tab-append f m n) ∙ append_assoc (tab f m) (tab (λ i. f (m + i)) n) (f (m + n) ∷ []))

  pub length-filled : (f : ℕ → A) (n : ℕ) (b : List A) → n ≤ length b → length (filled f n b) ≡ length b
  unfolding filled
  length-filled f n b h = simp (length-append, length-tab, length-drop) (omega arith)

  -- all of the buffer
  pub filled-all : (f : ℕ → A) (n : ℕ) (b : List A) → length b ≡ n → filled f n b ≡ tab f n
  unfolding filled
  filled-all f n b h = ap (λ (l : List A). tab f n ++ l) (drop_of_length-le b (omega arith)) ∙ append-nil (tab f n)

  -- the first n elements are f 0 to f (n - 1), and the rest is as it was
  pub filled-front : (f : ℕ → A) (n : ℕ) (b : List A) (i : ℕ) (d : A) → i < n → get_or (filled f n b) i d ≡ f i
  unfolding filled
  filled-front f n b i d h =
      get_or-append (tab f n) (drop n b) d i (omega (arith, length-tab f n)) ∙ get_or-tab f n i d h

  pub filled-rest : (f : ℕ → A) (n : ℕ) (b : List A) (i : ℕ) (d : A) → n ≤ i → get_or (filled f n b) i d ≡ get_or b i d
  unfolding filled
  filled-rest f n b i d h =
      let e : i ≡ length (tab f n) + (i - n) = omega (arith, length-tab f n) in
      let k : n + (i - n) ≡ i = omega arith in
      ap (λ (m : ℕ). get_or (tab f n ++ drop n b) m d) e ∙ get_or-append-add (tab f n) (drop n b) (i - n) d
      ∙ get_or-drop n b (i - n) d ∙ ap (λ (m : ℕ). get_or b m d) k

  -- ---- a loop that stores f i at i, with the invariant `b ≡ filled f i b₀`: its start, a turn, and its end
  pub fill-start : (f : ℕ → A) (b : List A) → b ≡ filled f 0 b
  unfolding filled tab
  fill-start f b = refl

  filled-more : (f : ℕ → A) (i : ℕ) (b : List A) → i < length b → set (filled f i b) i (f i) ≡ filled f (i + 1) b
  unfolding filled tab
  filled-more f i b h =
      rw (add-one, drop-cons b i (f i) h)
      (set_at (tab f i) (get_or b i (f i)) (drop (suc i) b) (f i) i (length-tab f i) ∙ sym (append_assoc (tab f i) (f i ∷ []) (drop (suc i) b)))

  pub fill-turn : (f : ℕ → A) (i : ℕ) (b₀ b : List A) → i < length b₀ → b ≡ filled f i b₀ → set b i (f i) ≡ filled f (i + 1) b₀
  fill-turn f i b₀ b h e = ap (λ (l : List A). set l i (f i)) e ∙ filled-more f i b₀ h

  pub fill-done : (f : ℕ → A) (i n : ℕ) (b₀ b : List A) → i ≡ n → b ≡ filled f i b₀ → b ≡ filled f n b₀
  fill-done f i n b₀ b k e = e ∙ ap (λ (m : ℕ). filled f m b₀) k
