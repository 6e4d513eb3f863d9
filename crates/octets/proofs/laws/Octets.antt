-- Bytes end to end are bytes: two lists of them, pieces, the bytes that spell a number, and a block by its fields. Assumes nothing.
use Rattle.std.specs.Prelude.{ℕ, zero, suc, ◌+◌, ◌-◌, ◌<◌, ◌≡◌, length}
use mathlib.Core.List.{List, [], ◌∷◌, ◌++◌, map, flatten}
use Rattle.std.proofs.Common.{inl, inr, ap, ◌∙◌, arith, get_or-append-add}
use Rattle.std.proofs.Math.ListN.{get_or-append}
use Rattle.octets.proofs.laws.Pieces.{flat-more}
use Rattle.chain.specs.Fill.{tab}
use Rattle.chain.proofs.laws.Below.{below}
use Rattle.octets.specs.Bytes.{byte, Octets, spelled}
use Rattle.octets.proofs.laws.Bytes.{all-octets}

-- two lists of bytes
pub octets-append : (a b : List ℕ) → Octets a → Octets b → Octets (a ++ b)
octets-append a b h k p =
    elim (below p (length a)) [
      | inl l ↦ omega (arith, get_or-append a b 0 p l, h p)
      | inr l ↦
          let e : p ≡ length a + (p - length a) = omega arith in
          omega (arith, ap (byte (a ++ b)) e ∙ get_or-append-add a b (p - length a) 0, k (p - length a))
    ]

-- pieces
pub octets-flat : (f : ℕ → List ℕ) (n : ℕ) → ((k : ℕ) → Octets (f k)) → Octets (flatten (tab f n))
unfolding tab flatten
octets-flat f zero h = λ p. omega arith
octets-flat f (suc n) h = rw flat-more (octets-append (flatten (tab f n)) (f n) (octets-flat f n h) (h n))

-- a number spelled
pub octets-spelled : (n m : ℕ) → Octets (spelled n m)
unfolding spelled
octets-spelled zero m p = omega arith
octets-spelled (suc n) m zero = omega arith
octets-spelled (suc n) m (suc p) = octets-spelled n _ p

-- ---- a block by its fields, each with why it is bytes
pub record Field : Type 0 where
  pub bytes : List ℕ
  pub good : Octets bytes

-- a number of n bytes, one byte, and bytes that are given
abbrev pub number : ℕ → ℕ → Field
number n m = record { bytes = spelled n m; good = octets-spelled n m }

abbrev pub one : (b : ℕ) → b < 256 → Field
one b h = record { bytes = b ∷ []; good = all-octets (b ∷ []) (h, tt) }

abbrev pub some : (l : List ℕ) → Octets l → Field
some l h = record { bytes = l; good = h }

-- all of them, end to end
pub octets-fields : (l : List Field) → Octets (flatten (map (λ f. f.bytes) l))
unfolding flatten
octets-fields [] = λ p. omega arith
octets-fields (f ∷ fs) = octets-append f.bytes (flatten (map (λ f. f.bytes) fs)) f.good (octets-fields fs)
