-- A field that is read of an image and laid again is the run of its bytes, and runs beside each other are one run. Places are counted from the start p of a
-- structure or record: a is an offset. Assumes nothing.
use Rattle.std.specs.Prelude.{ℕ, ◌+◌, ◌≤◌, ◌<◌, List, [], ◌∷◌, ◌++◌, ◌≡◌}
use Rattle.std.proofs.Common.{sym, ap₂, ◌∙◌, add-zero, arith, ext_get_or}
use Rattle.std.proofs.Math.Path.{ap}
use Rattle.std.proofs.lemmas.List.{length-replicate, get_or-replicate}
use Rattle.board_writer.specs.Image.{zeros}
use Rattle.chain.specs.Fill.{tab}
use Rattle.octets.specs.Bytes.{byte, Octets, run, little, spelled, le16, le32, le64}
use Rattle.octets.proofs.laws.Bytes.{length-run, byte-run, run-octets, run-append}
use Rattle.octets.proofs.laws.Spelled.{spelled-little}

-- m bytes from p on, and n from q on, where the m end
pub joined : (s : List ℕ) (p m q n : ℕ) {x y : List ℕ} → q ≡ p + m → x ≡ run s p m → y ≡ run s q n → x ++ y ≡ run s p (m + n)
joined s p m q n h e d =
    ap₂ (λ (x y : List ℕ). x ++ y) e (d ∙ ap (λ (r : ℕ). run s r n) h) ∙ sym (run-append s p m n)

module _ (s : List ℕ) (p a : ℕ) where
  -- m bytes from an offset on, and n after them
  pub beside : (m n : ℕ) {x y : List ℕ} → x ≡ run s (p + a) m → y ≡ run s (p + (a + m)) n → x ++ y ≡ run s (p + a) (m + n)
  beside m n = joined s (p + a) m (p + (a + m)) n (omega arith)

  -- one byte
  pub one-run : byte s (p + a) ∷ [] ≡ run s (p + a) 1
  unfolding tab
  one-run = ap (λ (q : ℕ). byte s q ∷ []) (sym (add-zero (p + a)))

  -- bytes that are zero
  pub zeros-run : (n : ℕ) → ((i : ℕ) → a ≤ i → i < a + n → byte s (p + i) ≡ 0) → zeros n ≡ run s (p + a) n
  zeros-run n zero =
      ext_get_or 0 (zeros n) (run s (p + a) n) (length-replicate {A = ℕ} n 0 ∙ sym (length-run s (p + a) n))
      (λ i h.
      let l : i < n = omega (arith, length-replicate {A = ℕ} n 0) in
      get_or-replicate n i 0 0 l
      ∙ sym (byte-run s (p + a) n i l ∙ ap (byte s) (omega arith) ∙ zero (a + i) (omega arith) (omega arith)))

-- ---- numbers, by the width of their field
module _ (s : List ℕ) (octets : Octets s) (p m : ℕ) where
  spelled-run : (n : ℕ) → little (run s p n) ≡ m → spelled n m ≡ run s p n
  spelled-run n e =
      ap₂ spelled (sym (length-run s p n)) (sym e) ∙ spelled-little (run s p n) (run-octets s p n octets)

  pub two-run : le16 s p ≡ m → spelled 2 m ≡ run s p 2
  unfolding le16
  two-run = spelled-run 2

  pub four-run : le32 s p ≡ m → spelled 4 m ≡ run s p 4
  unfolding le32
  four-run = spelled-run 4

  pub eight-run : le64 s p ≡ m → spelled 8 m ≡ run s p 8
  unfolding le64
  eight-run = spelled-run 8
