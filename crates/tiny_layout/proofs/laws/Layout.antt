-- The layout's laws: an item has at least one byte and at most 257, and its data lie inside it. Assumes nothing.
use Rattle.std.specs.Prelude.{ℕ, ◌+◌, ◌/◌, ◌≤◌, ◌<◌, Bool, true, false, cond, List, ◌≡◌, refl, Some}
use Rattle.std.proofs.Common.{sym, ap, add-zero, arith}
use Rattle.chain.specs.All.{All}
use Rattle.chain.specs.Nth.{nth}
use Rattle.chain.proofs.laws.Nth.{nth-all}
use Rattle.chain.proofs.laws.Places.{chain-within}
use Rattle.octets.specs.Bytes.{byte, Octets}
use Rattle.tiny_layout.specs.Layout.{is_long, head_size, data_length, data_at, size, check_place, next, items}

head-within : (b : Bool) → (1 ≤ cond b 2 1) × (cond b 2 1 ≤ 2)
head-within true = (omega arith, omega arith)
head-within false = (omega arith, omega arith)

-- one byte of head, or two
pub head-bounds : (tag : ℕ) → (1 ≤ head_size tag) × (head_size tag ≤ 2)
unfolding head_size
head-bounds tag = head-within (is_long tag)

-- an item's data begin past its tag, and end with it
pub data-after : (s : List ℕ) (p : ℕ) → p < data_at s p
data-after s p = omega (arith, (head-bounds (byte s p)).0)

pub data-within : (s : List ℕ) (p : ℕ) → data_at s p ≤ next s p
unfolding next
data-within s p = omega arith

-- so the next item starts further on
pub next-grows : (s : List ℕ) (p : ℕ) → p < next s p
unfolding next
next-grows s p = omega (arith, (head-bounds (byte s p)).0)

-- an item has a byte, and how many it has is read from its own bytes
pub size-some : (s : List ℕ) (p : ℕ) → 0 < size s p
size-some s p = omega (arith, (head-bounds (byte s p)).0)

pub size-own : (s t : List ℕ) (p q : ℕ) → ((i : ℕ) → i < size s p → byte s (p + i) ≡ byte t (q + i)) → size t q ≡ size s p
unfolding head_size data_length
size-own s t p q same =
    let tag : byte s p ≡ byte t q = simp add-zero at (same 0 (size-some s p)) in
    go (is_long (byte s p)) refl tag
  where
    go : (b : Bool) → is_long (byte s p) ≡ b → byte s p ≡ byte t q → size t q ≡ size s p
    go true e tag =
        rw (← tag, e)
        (ap (λ (n : ℕ). 2 + n) (sym (same 1 (rw e (omega arith)))))
    go false e tag = rw (← tag, e)

-- a length byte, or four bits
pub length-bound : (s : List ℕ) (p : ℕ) → Octets s → data_length s p < 256
unfolding data_length
length-bound s p octets = go (is_long (byte s p))
  where
    go : (b : Bool) → cond b (byte s (p + 1)) (byte s p / 16) < 256
    go true = octets (p + 1)
    go false = omega (arith, octets p)

-- each item starts past the header and before the check byte
pub items-within : (s : List ℕ) → All (λ p. (3 ≤ p) × (p < check_place s)) (items s)
items-within s = chain-within (next s) (check_place s) (next-grows s) 3

pub item-within : (s : List ℕ) (n p : ℕ) → nth (items s) n ≡ Some p → (3 ≤ p) × (p < check_place s)
item-within s n p e = nth-all (λ q. (3 ≤ q) × (q < check_place s)) (items s) n p (items-within s) e
