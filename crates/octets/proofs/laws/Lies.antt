-- A block of bytes that lies in a list from a place on: how it comes to lie there, and that what is read within it is what is read of it alone.
-- Assumes nothing.
use Rattle.std.specs.Prelude.{ℕ, zero, suc, ◌+◌, ◌*◌, ◌≤◌, ◌<◌, ◌≡◌, length}
use mathlib.Core.List.{List, ◌++◌, flatten, append_assoc}
use Rattle.std.proofs.Common.{inl, inr, sym, subst, ◌∙◌, zero-add, arith, get_or-append-add}
use Rattle.std.proofs.Math.Path.{ap}
use Rattle.std.proofs.Math.ListN.{get_or-append}
use Rattle.octets.proofs.laws.Pieces.{flat-more, flat-length}
use Rattle.chain.specs.Fill.{tab}
use Rattle.chain.proofs.laws.Below.{below}
use Rattle.chain.proofs.laws.Fill.{tab-agree}
use Rattle.octets.specs.Bytes.{byte, run, little, le16, le32, le64}
use Rattle.octets.proofs.laws.Bytes.{run-all}

-- block h lies in s from place p on
abbrev pub Lies : List ℕ → ℕ → List ℕ → Type 0
Lies s p h = (i : ℕ) → i < length h → byte s (p + i) ≡ byte h i

-- at the front
pub lies-front : (h t : List ℕ) → Lies (h ++ t) 0 h
lies-front h t i k = ap (byte (h ++ t)) (zero-add i) ∙ get_or-append h t 0 i k

-- after other bytes
pub lies-after : (a t h : List ℕ) (p q : ℕ) → q ≡ length a + p → Lies t p h → Lies (a ++ t) q h
lies-after a t h p q e lies i k = ap (byte (a ++ t)) (omega arith) ∙ get_or-append-add a t (p + i) 0 ∙ lies i k

-- piece k of those of one size d, end to end at the front
pub lies-piece : (f : ℕ → List ℕ) (d n k : ℕ) (t : List ℕ) → ((j : ℕ) → length (f j) ≡ d) → k < n → Lies (flatten (tab f n) ++ t) (k * d) (f k)
lies-piece f d zero k t size h = absurd (omega arith)
lies-piece f d (suc n) k t size h =
    subst (λ (l : List ℕ). Lies l (k * d) (f k)) (sym (ap (λ (l : List ℕ). l ++ t) (flat-more f n) ∙ append_assoc (flatten (tab f n)) (f n) t))
    (elim (below k n) [
      | inl less ↦ lies-piece f d n k (f n ++ t) size less
      | inr more ↦
          let e : n ≡ k = omega arith in
          subst (λ (j : ℕ). Lies (flatten (tab f n) ++ (f n ++ t)) (j * d) (f j)) e
          (lies-after (flatten (tab f n)) (f n ++ t) (f n) 0 (n * d) (omega (arith, flat-length f d n size)) (lies-front (f n) t))
    ])

-- a block is the run of its bytes
pub lies-run : (s : List ℕ) (p : ℕ) (h : List ℕ) → Lies s p h → run s p (length h) ≡ h
lies-run s p h lies = tab-agree (λ i. byte s (p + i)) (λ i. byte h (0 + i)) (length h) (λ i k. lies i k ∙ ap (byte h) (omega arith)) ∙ run-all h

-- ---- what is read at offset o of a block
module _ (s : List ℕ) (p : ℕ) (h : List ℕ) (lies : Lies s p h) (o : ℕ) where
  -- a run, and with it a number of two, four or eight bytes, and sixteen bytes
  pub run-in : (n : ℕ) → o + n ≤ length h → run s (p + o) n ≡ run h o n
  run-in n k =
      tab-agree (λ i. byte s (p + o + i)) (λ i. byte h (o + i)) n (λ i l. ap (byte s) (omega arith) ∙ lies (o + i) (omega arith))

  pub le16-in : o + 2 ≤ length h → le16 s (p + o) ≡ le16 h o
  unfolding le16
  le16-in k = ap little (run-in 2 k)

  pub le32-in : o + 4 ≤ length h → le32 s (p + o) ≡ le32 h o
  unfolding le32
  le32-in k = ap little (run-in 4 k)

  pub le64-in : o + 8 ≤ length h → le64 s (p + o) ≡ le64 h o
  unfolding le64
  le64-in k = ap little (run-in 8 k)
