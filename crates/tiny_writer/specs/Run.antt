-- The run that the writer takes. Paper 01, "Writers": "one run of items, each as tag, length byte and data". Assumes nothing.
use Rattle.std.specs.Prelude.{ℕ, ◌+◌, ◌/◌, Bool, not, cond, ◌||◌, List, [], ◌∷◌, eqb, ltb, length}
use Rattle.chain.specs.Chain.{chain}
use Rattle.chain.specs.Number.{number_of}
use Rattle.chain.specs.Found.{Found}
use Rattle.octets.specs.Bytes.{byte}
use Rattle.octets.specs.Cut.{cut}
use Rattle.tiny_layout.specs.Layout.{is_long, data_length}

-- how many bytes the run's item at p has: the tag, the length byte, and as many data bytes as the length byte says
unfoldable pub run_size : List ℕ → ℕ → ℕ
run_size r p = 2 + byte r (p + 1)

-- where it ends, and the next one starts
abbrev pub run_next : List ℕ → ℕ → ℕ
run_next r p = p + run_size r p

-- the places of the run's items, end to end
abbrev pub run_places : List ℕ → List ℕ
run_places r = chain (run_next r) (length r) 0

-- the run's items, each as its bytes
abbrev pub run_items : List ℕ → List (List ℕ)
run_items r = cut run_size r (length r) 0

-- 46: data length not the tag's
abbrev pub wrong_length : List ℕ → ℕ → Bool
wrong_length r p = not (eqb (byte r (p + 1)) (data_length r p))

-- 46: tag 01 as an item
abbrev pub is_pool_tag : ℕ → Bool
is_pool_tag tag = eqb tag 0x01

-- 46: run cut short
abbrev pub cut_short : List ℕ → ℕ → Bool
cut_short r p = ltb (length r) (run_next r p)

-- 46 at one item
unfoldable pub bad_item : List ℕ → ℕ → Bool
bad_item r p = wrong_length r p || is_pool_tag (byte r p) || cut_short r p

-- 46; its place is the item's number
unfoldable pub rule46 : List ℕ → Found
rule46 r = number_of (bad_item r) (run_places r)

-- an item of a run as it lies in an image: the length byte is left out where the tag's high four bits say the length
abbrev pub laid : List ℕ → List ℕ
laid [] = []
laid (tag ∷ []) = tag ∷ []
laid (tag ∷ (n ∷ bytes)) = cond (is_long tag) (tag ∷ (n ∷ bytes)) (tag ∷ bytes)

-- an item of an image as a run has it: there the length is put after the tag
abbrev pub given : List ℕ → List ℕ
given [] = []
given (tag ∷ bytes) = cond (is_long tag) (tag ∷ bytes) (tag ∷ (tag / 16 ∷ bytes))
