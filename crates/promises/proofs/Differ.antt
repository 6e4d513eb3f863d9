-- By a test of each place: two images that differ nowhere but at places of two kinds, and an image of bytes. Assumes nothing.
use Rattle.std.specs.Prelude.{None}
use Prim.Native.Nat.{ℕ, ◌<◌}
use borrow.Author.Tests.{eqb-true, ltb-true, not-false}
use mathlib.Core.Bool.{Bool, true, false, not, ◌&&◌, false≢true}
use mathlib.Core.List.{List}
use mathlib.Core.Logic.{◌⊎◌, inl, inr}
use mathlib.Core.Path.{◌≡◌, refl, sym}
use native.Mathlib.Omega.{arith}
use lib.Dec.{eqb, ltb}
use lib.ListN.{length}
use Rattle.chain.specs.Chain.{range}
use Rattle.chain.specs.First.{first, when}
use Rattle.chain.proofs.laws.Below.{below}
use Rattle.chain.proofs.laws.Ranges.{range-none}
use Rattle.octets.specs.Bytes.{byte, Octets}
use Rattle.octets.proofs.laws.Bytes.{byte-past}

-- two tests that both pass
pub both : (a b : Bool) → a && b ≡ true → (a ≡ true) × (b ≡ true)
both true b e = (refl, e)
both false b e = absurd (false≢true e)

module _ (s t : List ℕ) (check inside : ℕ → Bool) (n : ℕ) where
  -- a difference anywhere else
  abbrev pub elsewhere : ℕ → Bool
  elsewhere q = not (eqb (byte s q) (byte t q)) && (not (check q) && not (inside q))

  -- each byte is the same, or its place passes one of the tests
  pub one-of-three : first (λ q. when (elsewhere q) q) (range 0 n) ≡ None → (q : ℕ) → q < n → (byte s q ≡ byte t q) ⊎ ((check q ≡ true) ⊎ (inside q ≡ true))
  one-of-three none q h =
      go (eqb (byte s q) (byte t q)) refl (check q) refl (inside q) refl (range-none elsewhere (λ i. i) n 0 none q (omega arith) h)
    where
      go : (a : Bool) → eqb (byte s q) (byte t q) ≡ a → (b : Bool) → check q ≡ b → (c : Bool) → inside q ≡ c → not a && (not b && not c) ≡ false
          → (byte s q ≡ byte t q) ⊎ ((check q ≡ true) ⊎ (inside q ≡ true))
      go true d b e c f w = inl (eqb-true (byte s q) (byte t q) d)
      go false d true e c f w = inr (inl e)
      go false d false e true f w = inr (inr f)
      go false d false e false f w = absurd (false≢true (sym w))

-- ---- bytes, by a test of each
pub octets-tested : (s : List ℕ) → first (λ q. when (not (ltb (byte s q) 256)) q) (range 0 (length s)) ≡ None → Octets s
octets-tested s none q =
    elim (below q (length s)) [
      | inl h ↦ ltb-true (byte s q) 256 (not-false (ltb (byte s q) 256) (range-none (λ i. not (ltb (byte s i) 256)) (λ i. i) (length s) 0 none q (omega arith) h))
      | inr h ↦ omega (arith, byte-past s q h)
    ]
