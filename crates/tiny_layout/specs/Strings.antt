-- The strings of a pool. Paper 01: "strings end to end, top bit set on each last byte; may be empty (no strings)". "String 0 is the first."
-- `texts` splits the data into the texts themselves; `strings` says where each one lies, and `laws/Texts` ties the two. Assumes nothing.
use Rattle.std.specs.Prelude.{ℕ, ◌+◌, ◌-◌, ◌%◌, max, Bool, cond, List, [], ◌∷◌, leb, Some, None}
use Rattle.chain.specs.Chain.{chain, range}
use Rattle.chain.specs.Fill.{tab}
use Rattle.chain.specs.First.{first, when}
use Rattle.chain.specs.Nth.{nth}
use Rattle.chain.specs.Found.{Found}
use Rattle.octets.specs.Bytes.{byte, run}
use Rattle.octets.specs.declared.Span.{Span}
use Rattle.tiny_layout.specs.declared.Pool.{Pool}
use Rattle.tiny_layout.specs.Reference.{Reference}

-- the end mark: the top bit
abbrev pub is_marked : ℕ → Bool
is_marked b = leb 128 b

-- a byte as a character of its text: the end mark cleared
abbrev pub letter : ℕ → ℕ
letter b = b % 128

-- ---- the texts

-- a character put in front of the first text
abbrev pub in_front : ℕ → List (List ℕ) → List (List ℕ)
in_front c [] = (c ∷ []) ∷ []
in_front c (t ∷ ts) = (c ∷ t) ∷ ts

-- the texts that lie end to end in these bytes: a marked byte ends its text, any other goes on with it
unfoldable pub split : List ℕ → List (List ℕ)
split [] = []
split (b ∷ bs) = let more = split bs in cond (is_marked b) ((letter b ∷ []) ∷ more) (in_front (letter b) more)

-- the texts of a pool; the string count is their number
unfoldable pub texts : List ℕ → Pool → List (List ℕ)
texts s pool = split (run s pool.from (pool.to - pool.from))

-- ---- where they lie

-- the byte at p, if it is marked
abbrev pub mark : List ℕ → ℕ → Found
mark s p = when (is_marked (byte s p)) p

-- past the marked byte; without one, the pool's end. (Past that, one place on: places grow.)
abbrev pub past_mark : ℕ → ℕ → Found → ℕ
past_mark to p (Some q) = q + 1
past_mark to p None = max to (p + 1)

-- where the string at p ends, in a pool that ends at `to`
unfoldable pub string_end : List ℕ → ℕ → ℕ → ℕ
string_end s to p = past_mark to p (first (mark s) (range p to))

-- the places of a pool's strings, end to end
abbrev pub strings : List ℕ → Pool → List ℕ
strings s pool = chain (string_end s pool.to) pool.to pool.from

-- the place and the length of the string at p, in a pool that ends at `to`
abbrev pub span_at : List ℕ → ℕ → ℕ → Span
span_at s to p = record { place = p; length = string_end s to p - p }

-- the VALUE of a text: its bytes, the end mark cleared
abbrev pub text_of : List ℕ → Span → List ℕ
text_of s span = tab (λ i. letter (byte s (span.place + i))) span.length

-- ---- a reference

-- the string at the place found; undecodable without one
abbrev pub reference_at : List ℕ → Pool → Found → Reference
reference_at s pool (Some p) = Some (span_at s pool.to p)
reference_at s pool None = None

-- what an index n refers to in a pool: the string of that number; undecodable where the pool has none. In an accepted image that is exactly where 01
-- is not on the list: then the pool is empty, and else rule 10 refuses such an index
unfoldable pub reference : List ℕ → Pool → ℕ → Reference
reference s pool n = reference_at s pool (nth (strings s pool) n)
