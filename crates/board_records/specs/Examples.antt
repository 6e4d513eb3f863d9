-- By computation: what is found in a reserved field that its structure's end cuts, and which labels of a map's records equal an earlier one. Assumes nothing.
use Rattle.std.specs.Prelude.{ℕ, ◌+◌, ◌*◌, ◌≡◌, refl, length, replicate, Some, None}
use mathlib.Core.List.{List, [], ◌∷◌, ◌++◌, map, flatten}
use Rattle.board_layout.specs.Layout.{end_at, records}
use Rattle.board_layout.specs.declared.Records.TheVariants.{Map}
use Rattle.board_records.specs.Records.{field_used, repeated_label}
use Rattle.chain.specs.Chain.{visit, chain}
use Rattle.chain.specs.Fill.{tab}
use Rattle.chain.specs.First.{first}
use Rattle.chain.specs.Found.{Found}
use Rattle.octets.specs.Bytes.{le32}
use Rattle.octets.specs.Runs.{nonzero, difference, same_run}

-- ---- the field has the bytes 0, 9 and 8, from offset 2 up to 5 of what starts at 1: places 3 to 5
abbrev image : List ℕ
image = 7 ∷ 7 ∷ 7 ∷ 0 ∷ 9 ∷ 8 ∷ 7 ∷ []

-- the structure ends behind the field, right after it, before its last byte, and where it starts: it is read only if it lies wholly within
cut-field : map (λ end. field_used image 2 5 end 1) (7 ∷ 6 ∷ 5 ∷ 3 ∷ []) ≡ Some 4 ∷ Some 4 ∷ None ∷ None ∷ []
unfolding nonzero first chain visit
cut-field = refl

-- ---- labels: "rig", "top1" and "top2", the empty one, and sixteen letters with any last one
abbrev zeros : ℕ → List ℕ
zeros n = replicate n 0

abbrev rig : List ℕ
rig = 0x72 ∷ 0x69 ∷ 0x67 ∷ 0x24 ∷ zeros 12

abbrev top : ℕ → List ℕ
top digit = 0x74 ∷ 0x6F ∷ 0x70 ∷ digit ∷ 0x24 ∷ zeros 11

abbrev top1 : List ℕ
top1 = top 0x31

abbrev top2 : List ℕ
top2 = top 0x32

abbrev empty : List ℕ
empty = 0x24 ∷ zeros 15

abbrev letters : ℕ → List ℕ
letters last =
    0x73 ∷ 0x69 ∷ 0x78 ∷ 0x74 ∷ 0x65 ∷ 0x65 ∷ 0x6E ∷ 0x20 ∷ 0x6C ∷ 0x65 ∷ 0x74 ∷ 0x74 ∷ 0x65 ∷ 0x72 ∷ 0x73 ∷ last ∷ []

-- a map at place 0 with PartLabel "rig", and records with these labels at 30h, 50h, 70h and 90h; its other bytes are zero, save those of its Length
abbrev map_of : List (List ℕ) → List ℕ
map_of labels =
    zeros 12 ++ ((0x30 + 0x20 * length labels) ∷ zeros 3) ++ rig ++ zeros 16 ++ flatten (map (λ (l : List ℕ). l ++ zeros 16) labels)

-- labels, and what is found: the first that equals an earlier one
record Row : Type 0 where
  labels : List (List ℕ)
  found : Found

abbrev row : List (List ℕ) → Found → Row
row l f = record { labels = l; found = f }

abbrev rows : List Row
rows =
    row (top1 ∷ top2 ∷ []) None
    -- next to each other, and apart
    ∷ row (top1 ∷ top1 ∷ []) (Some 0x50)
    ∷ row (top1 ∷ top2 ∷ top1 ∷ []) (Some 0x70)
    -- three of one name: the second of them
    ∷ row (top1 ∷ top1 ∷ top1 ∷ []) (Some 0x50)
    -- two pairs: the label that is first repeated, and not the one that is first of all
    ∷ row (top1 ∷ top2 ∷ top2 ∷ top1 ∷ []) (Some 0x70)
    -- empty labels are labels like any other
    ∷ row (empty ∷ top1 ∷ empty ∷ []) (Some 0x70)
    -- one byte differs, the last
    ∷ row (letters 0x21 ∷ letters 0x3F ∷ []) None
    -- PartLabel is no record's
    ∷ row (rig ∷ top1 ∷ []) None
    ∷ []

repeated-labels : map (λ (r : Row). first (repeated_label (map_of r.labels) 0) (records Map (map_of r.labels) 0)) rows ≡ map (λ (r : Row). r.found) rows
unfolding repeated_label end_at records visit chain first tab le32 difference same_run flatten
repeated-labels = refl
