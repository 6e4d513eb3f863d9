-- What is read tells the bytes it is read from: the converse of laws/Same. Two images that show the same run or number at a place agree on its bytes.
-- Assumes nothing.
use Rattle.std.specs.Prelude.{ℕ, ◌+◌, ◌-◌, ◌<◌, List, ◌≡◌}
use Rattle.std.proofs.Common.{sym, ap, subst, ◌∙◌, arith}
use Rattle.octets.specs.Bytes.{byte, Octets, run, little, le32, le64}
use Rattle.octets.proofs.laws.Bytes.{length-run, byte-run, run-octets}
use Rattle.octets.proofs.laws.Same.{Same}
use Rattle.octets.proofs.laws.Spelled.{little-injective}

-- ---- what is shown at p tells its bytes
module _ (s t : List ℕ) (p : ℕ) where
  pub run-told : (n : ℕ) → run s p n ≡ run t p n → Same s t p (p + n)
  run-told n e q h k =
      let d : p + (q - p) ≡ q = omega arith in
      let l : q - p < n = omega arith in
      subst (λ (x : ℕ). byte s x ≡ byte t x) d
      (sym (byte-run s p n (q - p) l) ∙ ap (λ (x : List ℕ). byte x (q - p)) e ∙ byte-run t p n (q - p) l)

  -- a number is spelled by one run of bytes only
  module _ (good : Octets s) (fine : Octets t) where
    pub number-told : (n : ℕ) → little (run s p n) ≡ little (run t p n) → Same s t p (p + n)
    number-told n e =
        run-told n
        (little-injective (run s p n) (run t p n) (run-octets s p n good) (run-octets t p n fine) (length-run s p n ∙ sym (length-run t p n)) e)

    pub le32-told : le32 s p ≡ le32 t p → Same s t p (p + 4)
    unfolding le32
    le32-told e = number-told 4 e

    pub le64-told : le64 s p ≡ le64 t p → Same s t p (p + 8)
    unfolding le64
    le64-told e = number-told 8 e
