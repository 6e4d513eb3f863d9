-- What the code's one walk along the items reads, notes and finds. A reader of the rules may skip this. Assumes nothing.
use Rattle.std.specs.Prelude.{ℕ, ◌+◌, ◌≤◌, ◌<◌, List, ◌≡◌, length, None}
use Rattle.chain.specs.First.{first, or_else}
use Rattle.kinds.specs.declared.Kinds.{Kinds}
use Rattle.octets.specs.Bytes.{byte}
use Rattle.tiny_layout.specs.Layout.{check_place, data_at, next, items}
use Rattle.tiny_layout.specs.Pool.{known_of, pool_place}
use Rattle.tiny_rules.specs.Rules.{passes, reserved, early, on_known, bad_index, bad_field, rule6, rule7, rule8, rule11}
use Rattle.tiny_rules.specs.declared.walk.Findings.{Findings}
use Rattle.tiny_rules.specs.declared.walk.Head.{Head}

-- the head of the item at p
abbrev pub head_at : List ℕ → ℕ → Head
head_at s p = record { place = p; tag = byte s p; start = data_at s p; after = next s p }

-- `end` is the check byte's place, and `head` the head of the item at its place
pub record Seen (s : List ℕ) (end : ℕ) (head : Head) : Type 0 where
  pub all : end ≡ check_place s
  pub here : head ≡ head_at s head.place

-- r is at least `least`, and above each byte from place `from` up to `to`
pub record Above (s : List ℕ) (least from to r : ℕ) : Type 0 where
  pub more : least ≤ r
  pub bytes : (q : ℕ) → from ≤ q → q < to → byte s q < r

-- rule 10 is not broken by the item at p, nor by any item, if there are r strings or more
abbrev pub AboveAt : Kinds → List ℕ → ℕ → ℕ → Type 0
AboveAt k s p r = (n : ℕ) → r ≤ n → on_known k s (bad_index s n) p ≡ None

abbrev pub AboveAll : Kinds → List ℕ → ℕ → Type 0
AboveAll k s r = (n : ℕ) → r ≤ n → first (on_known k s (bad_index s n)) (items s) ≡ None

-- g is what was found before the item at p, in f, or else is found there
pub record Noted (k : Kinds) (s : List ℕ) (p : ℕ) (f g : Findings) : Type 0 where
  pub passing : g.passing ≡ or_else f.passing (passes s p)
  pub reserved : g.reserved ≡ or_else f.reserved (reserved s p)
  pub early : g.early ≡ or_else f.early (early k s p)
  pub pool : g.pool ≡ or_else f.pool (known_of k s 0x01 p)
  pub field : g.field ≡ or_else f.field (on_known k s (bad_field s) p)
  pub above : (f.above ≤ g.above) × AboveAt k s p g.above
  pub count : g.count ≡ f.count + 1

-- f is what the whole walk finds
pub record Walked (k : Kinds) (s : List ℕ) (f : Findings) : Type 0 where
  pub passing : f.passing ≡ rule6 s
  pub reserved : f.reserved ≡ rule7 s
  pub early : f.early ≡ rule8 k s
  pub pool : f.pool ≡ pool_place k s
  pub field : f.field ≡ rule11 k s
  pub above : AboveAll k s f.above
  pub count : f.count ≡ length (items s)
