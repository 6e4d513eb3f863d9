-- The parts of an image and how long it is. Assumes nothing.
use Rattle.std.specs.Prelude.{ℕ, ◌+◌, ◌<◌, ◌≤◌, Bool, true, false, Option, Some, None, ◌≡◌, refl, leb, length}
use Rattle.std.proofs.lemmas.Bool.{leb-false}
use Rattle.std.proofs.Common.{sym, ap, ap₂, ◌∙◌, arith, cond, length-append, leb-true}
use mathlib.Core.List.{List, [], ◌∷◌, ◌++◌, map, flatten, append-nil}
use Rattle.octets.proofs.laws.Cut.{flatten-append}
use Rattle.tiny_writer.specs.Building.{laid_from, pool_bytes, fitting}
use Rattle.tiny_writer.specs.Image.{Parts, pool_items, body, image_length, unchecked}
use Rattle.tiny_writer.specs.Run.{run_items, laid}

-- the bytes of the items are those of the run and of the pool
pub body-is : (x : Parts) → body x ≡ laid_from x.run 0 ++ flatten (pool_items x.pool)
unfolding body laid_from
body-is x = flatten-append (map laid (run_items x.run)) (pool_items x.pool)

-- the bytes of a pool that is lent
pub pool-given : (o : Option (List ℕ)) (pool : List ℕ) → o ≡ Some pool → 0x01 ∷ (length pool ∷ pool) ≡ flatten (pool_items o)
unfolding flatten
pool-given (Some lent) pool e = sym (ap (λ p. flatten (pool_items p)) e ∙ append-nil (0x01 ∷ (length pool ∷ pool)))
pool-given None pool e = cc

-- without one there are none
pub none-given : (o : Option (List ℕ)) → o ≡ None → [] ≡ flatten (pool_items o)
unfolding flatten
none-given (Some pool) e = cc
none-given None e = refl

-- how many there are
pub pool-size : (o : Option (List ℕ)) → length (flatten (pool_items o)) ≡ pool_bytes o
unfolding flatten
pool-size (Some pool) = sym (ap length (pool-given (Some pool) pool refl)) ∙ omega arith
pool-size None = refl

-- the total length, by its parts
pub length-is : (x : Parts) → image_length x ≡ length (laid_from x.run 0) + pool_bytes x.pool + 4
length-is x = omega (arith, ap length (body-is x), length-append (laid_from x.run 0) (flatten (pool_items x.pool)), pool-size x.pool)

-- a length that an image may have, and one that it may not
pub fitting-some : (n : ℕ) {m : ℕ} → fitting n ≡ Some m → (n ≤ 255) × (n ≡ m)
fitting-some n {m} = go (leb n 255) refl
  where
    go : (b : Bool) → leb n 255 ≡ b → cond b (Some n) None ≡ Some m → (n ≤ 255) × (n ≡ m)
    go true e d = (leb-true n 255 e, cc)
    go false e d = cc

pub fitting-none : (n : ℕ) → fitting n ≡ None → 255 < n
fitting-none n = go (leb n 255) refl
  where
    go : (b : Bool) → leb n 255 ≡ b → cond b (Some n) None ≡ None → 255 < n
    go true e d = cc
    go false e d = leb-false n 255 e

-- the check byte comes last
pub last-place : (x : Parts) (n to : ℕ) → image_length x ≡ n → to ≡ 3 + length (laid_from x.run 0) → n ≡ to + length (flatten (pool_items x.pool)) + 1
last-place x n to e t = omega (arith, length-is x, pool-size x.pool)

-- header, items and pool are all but the check byte
pub unchecked-is : (x : Parts) (n : ℕ) → image_length x ≡ n → ((0x56 ∷ (0x02 ∷ (n ∷ []))) ++ laid_from x.run 0) ++ flatten (pool_items x.pool) ≡ unchecked x
unchecked-is x n e = ap₂ (λ (m : ℕ) (l : List ℕ). 0x56 ∷ (0x02 ∷ (m ∷ l))) (sym e) (sym (body-is x))
