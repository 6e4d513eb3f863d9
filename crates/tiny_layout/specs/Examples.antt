-- What the definitions give on small images, by computation: items, the pool, its texts and references to them. Assumes nothing.
use Rattle.std.specs.Prelude.{ℕ, List, [], ◌∷◌, map, ◌≡◌, refl, Some, None}
use Rattle.chain.specs.Chain.{visit, chain}
use Rattle.chain.specs.Fill.{tab}
use Rattle.chain.specs.First.{first}
use Rattle.chain.specs.Nth.{nth}
use Rattle.kinds.specs.Kinds.{listed, all, full, bare}
use Rattle.tiny_layout.specs.Layout.{head_size, data_length, next, items}
use Rattle.tiny_layout.specs.Pool.{pool}
use Rattle.tiny_layout.specs.Strings.{split, texts, string_end, strings, text_of, reference}

-- the size of an item by its tag: the tag byte, and as many data bytes as its high four bits say
sizes : map (λ tag. next (tag ∷ []) 0) (0x10 ∷ 0x60 ∷ 0x81 ∷ []) ≡ 2 ∷ 7 ∷ 9 ∷ []
unfolding next head_size data_length
sizes = refl

-- a long tag, 02, with three data bytes; the next item, 11, starts past them
long-tag : items (0x56 ∷ 0x02 ∷ 0x0B ∷ 0x02 ∷ 0x03 ∷ 0xAA ∷ 0xBB ∷ 0xCC ∷ 0x11 ∷ 0x0F ∷ 0x00 ∷ []) ≡ 3 ∷ 8 ∷ []
unfolding next head_size data_length chain visit
long-tag = refl

-- an image with a serial, string 0, and a pool of one string, top1
abbrev image : List ℕ
image = 0x56 ∷ 0x02 ∷ 0x0C ∷ 0x10 ∷ 0x00 ∷ 0x01 ∷ 0x04 ∷ 0x74 ∷ 0x6F ∷ 0x70 ∷ 0xB1 ∷ 0x57 ∷ []

serial-and-pool : items image ≡ 3 ∷ 5 ∷ []
unfolding next head_size data_length chain visit
serial-and-pool = refl

full-pool : pool full image ≡ record { from = 7; to = 11 }
unfolding pool listed all next head_size data_length first chain visit
full-pool = refl

-- a reader without 01 on its list uses no pool, and has no string
bare-pool : pool bare image ≡ record { from = 0; to = 0 }
unfolding pool listed all next head_size data_length first chain visit
bare-pool = refl

bare-reference : reference image (record { from = 0; to = 0 }) 0 ≡ None
unfolding reference string_end nth first chain visit
bare-reference = refl

-- the one string, by its place and by its text
one-place : strings image (record { from = 7; to = 11 }) ≡ 7 ∷ []
unfolding string_end first chain visit
one-place = refl

one-text : texts image (record { from = 7; to = 11 }) ≡ (0x74 ∷ 0x6F ∷ 0x70 ∷ 0x31 ∷ []) ∷ []
unfolding texts split tab
one-text = refl

string-0 : reference image (record { from = 7; to = 11 }) 0 ≡ Some (record { place = 7; length = 4 })
unfolding reference string_end nth first chain visit
string-0 = refl

text-0 : text_of image (record { place = 7; length = 4 }) ≡ 0x74 ∷ 0x6F ∷ 0x70 ∷ 0x31 ∷ []
unfolding tab
text-0 = refl

string-1 : reference image (record { from = 7; to = 11 }) 1 ≡ None
unfolding reference string_end nth first chain visit
string-1 = refl

-- a marked byte ends its text; bytes after the last mark are a text too; of no bytes there is none
two-texts : split (0xB1 ∷ 0x32 ∷ 0x33 ∷ 0xB4 ∷ []) ≡ (0x31 ∷ []) ∷ (0x32 ∷ 0x33 ∷ 0x34 ∷ []) ∷ []
unfolding split
two-texts = refl

unmarked : split (0x31 ∷ 0x32 ∷ []) ≡ (0x31 ∷ 0x32 ∷ []) ∷ []
unfolding split
unmarked = refl

no-texts : split [] ≡ []
unfolding split
no-texts = refl
