-- What the definitions give on small examples, by computation: numbers, runs, bytes put, items cut, and labels good and bad. Assumes nothing.
use Rattle.std.specs.Prelude.{ℕ, ◌+◌, true, List, [], ◌∷◌, ◌++◌, ◌≡◌, refl, replicate, Some, None}
use Rattle.chain.specs.Chain.{visit, chain}
use Rattle.chain.specs.Fill.{tab}
use Rattle.chain.specs.First.{first}
use Rattle.octets.specs.Bytes.{byte, spelled, le16, le32, run}
use Rattle.octets.specs.Cut.{cut}
use Rattle.octets.specs.Label.{is_text, is_label_text, text_end, bad_label}
use Rattle.octets.specs.Put.{put}
use Rattle.octets.specs.Runs.{difference, same_run, nonzero}

-- the first byte is the lowest; past the end a byte reads as 0
number : le16 (0x00 ∷ 0x34 ∷ 0x12 ∷ []) 1 ≡ 0x1234
unfolding le16 tab
number = refl

number-past : le32 (0x00 ∷ 0x34 ∷ 0x12 ∷ []) 1 ≡ 0x1234
unfolding le32 tab
number-past = refl

number-spelled : spelled 4 0x1234 ≡ 0x34 ∷ 0x12 ∷ 0x00 ∷ 0x00 ∷ []
unfolding spelled
number-spelled = refl

-- bytes that differ at every place, and the six, eight and sixteen from place 2 on
abbrev different : List ℕ
different = 0xA0 ∷ 0xA1 ∷ 0xA2 ∷ 0xA3 ∷ 0xA4 ∷ 0xA5 ∷ 0xA6 ∷ 0xA7 ∷ 0xA8 ∷ 0xA9 ∷ 0xAA ∷ 0xAB ∷ 0xAC ∷ 0xAD ∷ 0xAE ∷ 0xAF ∷ 0xB0 ∷ 0xB1 ∷ 0xB2 ∷ []

six-bytes : run different 2 6 ≡ 0xA2 ∷ 0xA3 ∷ 0xA4 ∷ 0xA5 ∷ 0xA6 ∷ 0xA7 ∷ []
unfolding tab
six-bytes = refl

eight-bytes : run different 2 8 ≡ 0xA2 ∷ 0xA3 ∷ 0xA4 ∷ 0xA5 ∷ 0xA6 ∷ 0xA7 ∷ 0xA8 ∷ 0xA9 ∷ []
unfolding tab
eight-bytes = refl

sixteen-bytes : run different 2 16
    ≡ 0xA2 ∷ 0xA3 ∷ 0xA4 ∷ 0xA5 ∷ 0xA6 ∷ 0xA7 ∷ 0xA8 ∷ 0xA9 ∷ 0xAA ∷ 0xAB ∷ 0xAC ∷ 0xAD ∷ 0xAE ∷ 0xAF ∷ 0xB0 ∷ 0xB1 ∷ []
unfolding tab
sixteen-bytes = refl

differing : difference (1 ∷ 2 ∷ 3 ∷ 4 ∷ []) 0 (0 ∷ 1 ∷ 2 ∷ 9 ∷ []) 1 4 ≡ Some 2
unfolding difference first chain visit
differing = refl

alike : same_run (1 ∷ 2 ∷ 3 ∷ 4 ∷ []) 0 (0 ∷ 1 ∷ 2 ∷ 9 ∷ []) 1 2 ≡ true
unfolding same_run difference first chain visit
alike = refl

-- bytes that fit in the middle, and exactly; bytes that do not fit: nothing changes
put-middle : put (8 ∷ 9 ∷ []) 1 (1 ∷ 2 ∷ 3 ∷ 4 ∷ []) ≡ 1 ∷ 8 ∷ 9 ∷ 4 ∷ []
unfolding put
put-middle = refl

put-last : put (8 ∷ 9 ∷ []) 2 (1 ∷ 2 ∷ 3 ∷ 4 ∷ []) ≡ 1 ∷ 2 ∷ 8 ∷ 9 ∷ []
unfolding put
put-last = refl

put-past : put (8 ∷ 9 ∷ []) 3 (1 ∷ 2 ∷ 3 ∷ 4 ∷ []) ≡ 1 ∷ 2 ∷ 3 ∷ 4 ∷ []
unfolding put
put-past = refl

-- items whose first byte says how many follow it
abbrev counted : List ℕ → ℕ → ℕ
counted s p = 1 + byte s p

abbrev three : List ℕ
three = 0x01 ∷ 0xAA ∷ 0x00 ∷ 0x02 ∷ 0xBB ∷ 0xCC ∷ []

cut-all : cut counted three 6 0 ≡ (0x01 ∷ 0xAA ∷ []) ∷ (0x00 ∷ []) ∷ (0x02 ∷ 0xBB ∷ 0xCC ∷ []) ∷ []
unfolding chain visit tab
cut-all = refl

-- from the second item on, up to an end before the third
cut-part : cut counted three 3 2 ≡ (0x00 ∷ []) ∷ []
unfolding chain visit tab
cut-part = refl

-- the last item passes the list's end: its bytes there read as 0
cut-short : cut counted (0x00 ∷ 0x02 ∷ 0xBB ∷ []) 3 0 ≡ (0x00 ∷ []) ∷ (0x02 ∷ 0xBB ∷ 0x00 ∷ []) ∷ []
unfolding chain visit tab
cut-short = refl

-- "top1"
abbrev top1 : List ℕ
top1 = 0x74 ∷ 0x6F ∷ 0x70 ∷ 0x31 ∷ []

-- '$' and zeros after it
label-ended : bad_label (top1 ++ (0x24 ∷ replicate 11 0)) 0 ≡ None
unfolding bad_label text_end is_label_text is_text nonzero first chain visit
label-ended = refl

-- sixteen characters; fifteen and '$'; none and '$'
label-full : bad_label (top1 ++ (top1 ++ (top1 ++ top1))) 0 ≡ None
unfolding bad_label text_end is_label_text is_text nonzero first chain visit
label-full = refl

label-fifteen : bad_label (replicate 15 0x20 ++ (0x24 ∷ [])) 0 ≡ None
unfolding bad_label text_end is_label_text is_text nonzero first chain visit
label-fifteen = refl

label-empty : bad_label (0x24 ∷ replicate 15 0) 0 ≡ None
unfolding bad_label text_end is_label_text is_text nonzero first chain visit
label-empty = refl

-- no '$' after the text; no text and no '$'; the last byte is not zero. The label stands at place 1 of the list
label-unended : bad_label (0 ∷ top1 ++ replicate 12 0) 1 ≡ Some 5
unfolding bad_label text_end is_label_text is_text nonzero first chain visit
label-unended = refl

label-zeros : bad_label (0 ∷ replicate 16 0) 1 ≡ Some 1
unfolding bad_label text_end is_label_text is_text nonzero first chain visit
label-zeros = refl

label-dirty : bad_label (0 ∷ 0x24 ∷ replicate 14 0 ++ (1 ∷ [])) 1 ≡ Some 16
unfolding bad_label text_end is_label_text is_text nonzero first chain visit
label-dirty = refl
