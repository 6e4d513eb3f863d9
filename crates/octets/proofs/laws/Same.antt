-- Two images that agree on the places from a up to b: what is read there is the same. Assumes nothing.
use Rattle.std.specs.Prelude.{ℕ, ◌+◌, ◌≤◌, ◌<◌, Bool, List, ◌≡◌, eqb, length, take, Some, None}
use Rattle.std.proofs.Math.Bool.{not}
use Rattle.std.proofs.Math.Path.{refl, ap, ap₂}
use Rattle.std.proofs.Common.{sym, ◌∙◌, arith}
use Rattle.chain.specs.Chain.{range, ahead}
use Rattle.chain.specs.First.{first, when, or_else}
use Rattle.chain.specs.Found.{Found}
use Rattle.chain.proofs.laws.Fill.{tab-agree}
use Rattle.chain.proofs.laws.First.{first-agree}
use Rattle.chain.proofs.laws.Loops.{one-grows}
use Rattle.chain.proofs.laws.Places.{chain-all}
use Rattle.octets.specs.Bytes.{byte, run, little, le16, le32, le64}
use Rattle.octets.specs.Label.{is_label_text, dollar, text_end, after_text, bad_label}
use Rattle.octets.specs.Runs.{apart, difference, is_nothing, same_run, nonzero}
use Rattle.octets.proofs.laws.Bytes.{run-part}
use Rattle.octets.proofs.laws.Label.{text-fits}

abbrev pub Same : List ℕ → List ℕ → ℕ → ℕ → Type 0
Same s t a b = (q : ℕ) → a ≤ q → q < b → byte s q ≡ byte t q

pub same-part : (s t : List ℕ) (a b c d : ℕ) → a ≤ c → d ≤ b → Same s t a b → Same s t c d
same-part s t a b c d h k same = λ q i j. same q (omega arith) (omega arith)

-- two tests that agree at each offset find the same: the first of the offsets from `from` up to `to`, each with its place
tests-same : (f g : ℕ → Bool) (place : ℕ → ℕ) (from to : ℕ) → ((i : ℕ) → i < to → f i ≡ g i)
    → first (λ i. when (f i) (place i)) (range from to) ≡ first (λ i. when (g i) (place i)) (range from to)
tests-same f g place from to agree =
    first-agree (λ i. when (f i) (place i)) (λ i. when (g i) (place i)) (range from to)
    (chain-all (ahead 1) to one-grows (λ i. when (f i) (place i) ≡ when (g i) (place i)) from (λ i _ k. ap (λ (x : Bool). when x (place i)) (agree i k)))

module _ (s t : List ℕ) (a b : ℕ) (same : Same s t a b) (p : ℕ) (start : a ≤ p) where
  pub byte-same : p + 1 ≤ b → byte s p ≡ byte t p
  byte-same h = same p start (omega arith)

  pub run-same : (n : ℕ) → p + n ≤ b → run s p n ≡ run t p n
  run-same n h = tab-agree (λ i. byte s (p + i)) (λ i. byte t (p + i)) n (λ i k. same (p + i) (omega arith) (omega arith))

  pub le16-same : p + 2 ≤ b → le16 s p ≡ le16 t p
  unfolding le16
  le16-same h = ap little (run-same 2 h)

  pub le32-same : p + 4 ≤ b → le32 s p ≡ le32 t p
  unfolding le32
  le32-same h = ap little (run-same 4 h)

  pub le64-same : p + 8 ≤ b → le64 s p ≡ le64 t p
  unfolding le64
  le64-same h = ap little (run-same 8 h)

  -- ---- a search by a test of each byte finds the same
  pub search-same : (test : ℕ → Bool) (place : ℕ → ℕ) (from to : ℕ) → p + to ≤ b → first (λ i. when (test (byte s (p + i))) (place i)) (range from to) ≡ first (λ i. when (test (byte t (p + i))) (place i)) (range from to)
  search-same test place from to h =
      tests-same (λ i. test (byte s (p + i))) (λ i. test (byte t (p + i))) place from to (λ i k. ap test (same (p + i) (omega arith) (omega arith)))

  pub nonzero-same : (from to : ℕ) → p + to ≤ b → nonzero s p from to ≡ nonzero t p from to
  unfolding nonzero
  nonzero-same from to h = search-same (λ x. not (eqb x 0)) (λ i. p + i) from to h

  -- two runs of one image that are compared
  pub same-run-same : (q n : ℕ) → a ≤ q → p + n ≤ b → q + n ≤ b → same_run s p s q n ≡ same_run t p t q n
  unfolding same_run difference
  same-run-same q n begin h k =
      ap is_nothing
      (tests-same (apart s p s q) (apart t p t q) (λ i. i) 0 n
      (λ i l. ap₂ (λ (x y : ℕ). not (eqb x y)) (same (p + i) (omega arith) (omega arith)) (same (q + i) (omega arith) (omega arith))))

  text-same : p + 16 ≤ b → text_end s p ≡ text_end t p
  unfolding text_end
  text-same h = search-same (λ x. not (is_label_text x)) (λ i. i) 0 16 h

  pub label-same : p + 16 ≤ b → bad_label s p ≡ bad_label t p
  unfolding bad_label
  label-same h = go (text_end s p) refl ∙ ap (after_text t p) (text-same h)
    where
      go : (f : Found) → text_end s p ≡ f → after_text s p f ≡ after_text t p f
      go (Some i) e =
          ap₂ (λ (x : ℕ) (f : Found). or_else (when (not (eqb x dollar)) (p + i)) f)
          (same (p + i) (omega arith) (omega (arith, text-fits s p i e))) (nonzero-same (i + 1) 16 h)
      go None e = refl

-- the first n bytes of both, where both have as many
pub take-same : (s t : List ℕ) (n : ℕ) → Same s t 0 n → n ≤ length s → n ≤ length t → take n s ≡ take n t
take-same s t n same h k =
    sym (run-part s 0 n (omega arith)) ∙ run-same s t 0 n same 0 (omega arith) n (omega arith) ∙ run-part t 0 n (omega arith)
