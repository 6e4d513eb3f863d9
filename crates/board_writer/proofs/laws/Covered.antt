-- The walk, the place of a `$PromSig` and how much Crc32 covers are not read from the check fields, 14h up to 1Ch: the header's head and StructLen lie before
-- them, and every other structure after them. Assumes nothing.
use Rattle.std.specs.Prelude.{ℕ, ◌+◌, ◌≤◌, List, ◌≡◌, eqb}
use Rattle.std.proofs.Common.{inl, inr, ap, ◌∙◌, arith}
use Rattle.std.proofs.Math.Path.{ap₂}
use Rattle.board_layout.specs.Layout.{length_at, struct_len, end_at, next, structures}
use Rattle.board_layout.specs.Places.{head_size, StructLen, Crc32, Version}
use Rattle.board_layout.proofs.laws.Layout.{next-grows, end-next}
use Rattle.board_layout.proofs.laws.Same.{signature-same, structures-agree}
use Rattle.board_rules.specs.Rules.{is_prom_sig, prom_sig_at, covered_up_to, covered}
use Rattle.chain.specs.All.{All}
use Rattle.chain.specs.First.{first, when}
use Rattle.chain.proofs.laws.All.{all-map}
use Rattle.chain.proofs.laws.Below.{below}
use Rattle.chain.proofs.laws.Chain.{chain-end, chain-more}
use Rattle.chain.proofs.laws.First.{first-agree}
use Rattle.chain.proofs.laws.Places.{chain-all}
use Rattle.kinds.specs.Signatures.{prom_sig}
use Rattle.octets.specs.Bytes.{byte}
use Rattle.octets.proofs.laws.Same.{Same, le32-same}

-- where StructLen agrees and the heads along the walk do, a `$PromSig` is found at the same place
pub prom-sig-agree : (s t : List ℕ) → struct_len s ≡ struct_len t → All (λ p. Same s t p (p + head_size)) (structures s) → prom_sig_at s ≡ prom_sig_at t
unfolding prom_sig_at
prom-sig-agree s t len heads =
    first-agree (is_prom_sig s) (is_prom_sig t) (structures s)
    (all-map (λ p. Same s t p (p + head_size)) (λ p. is_prom_sig s p ≡ is_prom_sig t p)
    (λ p h. ap (λ (g : ℕ). when (eqb g prom_sig) p) (signature-same s t p h)) (structures s) heads)
    ∙ ap (first (is_prom_sig t)) (structures-agree s t len heads)

-- two images that agree before the check fields and after them, and a header that has them
module _ (s t : List ℕ) (front : Same s t 0 Crc32) (rest : (q : ℕ) → Version ≤ q → byte s q ≡ byte t q) (long : Version ≤ length_at s 0) where
  -- StructLen lies before them
  len : struct_len s ≡ struct_len t
  len = le32-same s t 0 Crc32 front StructLen (omega arith) (omega arith)

  -- the second structure starts after them
  second : Version ≤ next s 0
  unfolding end_at
  second = omega (arith, long, end-next s 0)

  -- so the head of each structure is the same
  heads : All (λ p. Same s t p (p + head_size)) (structures s)
  heads =
      elim (below 0 (struct_len s)) [
        | inl h ↦ rw (chain-more (next s) (struct_len s) (next-grows s) 0 h) (
          λ q i j. front q i (omega arith),
          chain-all (next s) (struct_len s) (next-grows s) (λ p. Same s t p (p + head_size)) (next s 0) (λ p h _ q i _. rest q (omega (arith, second))),
        )
        | inr h ↦ rw (chain-end (next s) (struct_len s) (next-grows s) 0 h) tt
      ]

  -- a `$PromSig` is found at the same place
  pub prom-sig-same : prom_sig_at s ≡ prom_sig_at t
  prom-sig-same = prom-sig-agree s t len heads

  -- and the check covers as much
  pub covered-same : covered s ≡ covered t
  unfolding covered
  covered-same = ap₂ covered_up_to len prom-sig-same
