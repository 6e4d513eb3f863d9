-- The judge's answers by computation, with the full list and with the bare one: each rule broken and kept, on both sides of its bounds. Assumes nothing.
use Rattle.std.specs.Prelude.{ℕ, List, [], ◌∷◌, map, ◌≡◌, refl, Ok}
use Rattle.chain.specs.Chain.{visit, chain}
use Rattle.chain.specs.Fill.{tab}
use Rattle.chain.specs.First.{first}
use Rattle.crc.specs.Crc8.{crc8, reduce, bring, bits_of, bits_of_all}
use Rattle.kinds.specs.Kinds.{listed, all, full, bare}
use Rattle.octets.specs.Bytes.{le16}
use Rattle.octets.specs.Label.{is_text}
use Rattle.tiny_layout.specs.Layout.{head_size, data_length, next}
use Rattle.tiny_layout.specs.Pool.{pool}
use Rattle.tiny_layout.specs.Strings.{split, texts}
use Rattle.tiny_layout.specs.Tags.{shape_of}
use Rattle.tiny_rules.specs.Judged.{judged}
use Rattle.tiny_rules.specs.Rules.{rule1, rule2, rule3, rule4, rule5, rule6, rule7, rule8, rule9, rule10, rule11, bad_index, bad_revision, bad_batch, is_major}
use Rattle.verdict.specs.Verdict.{refusal}
use Rattle.verdict.specs.Answers.{Judged}

-- an image, what the full list says of it, and what the bare list says
pub record Row : Type 0 where
  pub image : List ℕ
  pub full : Judged
  pub bare : Judged

abbrev row : List ℕ → Judged → Judged → Row
row s f b = record { image = s; full = f; bare = b }

abbrev rows : List Row
rows =
    -- no items
    row (0x56 ∷ 0x02 ∷ 0x04 ∷ 0x6F ∷ []) (Ok 0) (Ok 0)
    -- an item ends at L - 1
    ∷ row (0x56 ∷ 0x02 ∷ 0x06 ∷ 0x11 ∷ 0x0F ∷ 0x8F ∷ []) (Ok 1) (Ok 1)
    -- 1: three bytes
    ∷ row (0x56 ∷ 0x02 ∷ 0x04 ∷ []) (refusal 1 0) (refusal 1 0)
    -- 2
    ∷ row (0x57 ∷ 0x02 ∷ 0x04 ∷ 0x6F ∷ []) (refusal 2 0) (refusal 2 0)
    -- 3
    ∷ row (0x56 ∷ 0x03 ∷ 0x04 ∷ 0x6F ∷ []) (refusal 3 1) (refusal 3 1)
    -- 4: L is 3, and L is one more than is lent
    ∷ row (0x56 ∷ 0x02 ∷ 0x03 ∷ 0x7A ∷ []) (refusal 4 2) (refusal 4 2)
    ∷ row (0x56 ∷ 0x02 ∷ 0x05 ∷ 0x68 ∷ []) (refusal 4 2) (refusal 4 2)
    -- 5: one bit of the check
    ∷ row (0x56 ∷ 0x02 ∷ 0x04 ∷ 0x6E ∷ []) (refusal 5 3) (refusal 5 3)
    -- 6: an item ends at L; a long tag whose length byte is the check byte; tag 00 with such an item behind it
    ∷ row (0x56 ∷ 0x02 ∷ 0x05 ∷ 0x11 ∷ 0x68 ∷ []) (refusal 6 3) (refusal 6 3)
    ∷ row (0x56 ∷ 0x02 ∷ 0x07 ∷ 0x11 ∷ 0x01 ∷ 0x02 ∷ 0x6A ∷ []) (refusal 6 5) (refusal 6 5)
    ∷ row (0x56 ∷ 0x02 ∷ 0x08 ∷ 0x00 ∷ 0x00 ∷ 0x21 ∷ 0x00 ∷ 0xAA ∷ []) (refusal 6 5) (refusal 6 5)
    -- 7: for every list
    ∷ row (0x56 ∷ 0x02 ∷ 0x06 ∷ 0x00 ∷ 0x00 ∷ 0xE0 ∷ []) (refusal 7 3) (refusal 7 3)
    -- 8: an item behind the listed pool, and two pools
    ∷ row (0x56 ∷ 0x02 ∷ 0x09 ∷ 0x01 ∷ 0x01 ∷ 0xE1 ∷ 0x11 ∷ 0x01 ∷ 0xCA ∷ []) (refusal 8 3) (Ok 2)
    ∷ row (0x56 ∷ 0x02 ∷ 0x0A ∷ 0x01 ∷ 0x01 ∷ 0xE1 ∷ 0x01 ∷ 0x01 ∷ 0xE1 ∷ 0x15 ∷ []) (refusal 8 3) (Ok 2)
    -- 9: 7Fh with its mark, a last byte without one, an empty pool, 1Fh, and the bounds of characters
    ∷ row (0x56 ∷ 0x02 ∷ 0x07 ∷ 0x01 ∷ 0x01 ∷ 0xFF ∷ 0x35 ∷ []) (refusal 9 5) (Ok 1)
    ∷ row (0x56 ∷ 0x02 ∷ 0x08 ∷ 0x01 ∷ 0x02 ∷ 0x41 ∷ 0x42 ∷ 0x56 ∷ []) (refusal 9 6) (Ok 1)
    ∷ row (0x56 ∷ 0x02 ∷ 0x06 ∷ 0x01 ∷ 0x00 ∷ 0xF5 ∷ []) (Ok 1) (Ok 1)
    ∷ row (0x56 ∷ 0x02 ∷ 0x08 ∷ 0x01 ∷ 0x02 ∷ 0x1F ∷ 0xC1 ∷ 0x0C ∷ []) (refusal 9 5) (Ok 1)
    ∷ row (0x56 ∷ 0x02 ∷ 0x09 ∷ 0x01 ∷ 0x03 ∷ 0x20 ∷ 0x7E ∷ 0xA0 ∷ 0x58 ∷ []) (Ok 1) (Ok 1)
    -- 10: an index at the string count, below it, and without a pool
    ∷ row (0x56 ∷ 0x02 ∷ 0x09 ∷ 0x10 ∷ 0x01 ∷ 0x01 ∷ 0x01 ∷ 0xE1 ∷ 0xAD ∷ []) (refusal 10 4) (Ok 2)
    ∷ row (0x56 ∷ 0x02 ∷ 0x09 ∷ 0x10 ∷ 0x00 ∷ 0x01 ∷ 0x01 ∷ 0xE1 ∷ 0xBB ∷ []) (Ok 2) (Ok 2)
    ∷ row (0x56 ∷ 0x02 ∷ 0x06 ∷ 0x10 ∷ 0x00 ∷ 0xB7 ∷ []) (refusal 10 4) (Ok 1)
    -- 11: major, minor, second character, batch; all in range; the other bounds of the major, and the first character
    ∷ row (0x56 ∷ 0x02 ∷ 0x0E ∷ 0x61 ∷ 0x00 ∷ 0x00 ∷ 0x64 ∷ 0x00 ∷ 0x41 ∷ 0x42 ∷ 0x01 ∷ 0x01 ∷ 0xE1 ∷ 0xA3 ∷ []) (refusal 11 6) (Ok 2)
    ∷ row (0x56 ∷ 0x02 ∷ 0x0E ∷ 0x62 ∷ 0x00 ∷ 0x00 ∷ 0x00 ∷ 0x64 ∷ 0x41 ∷ 0x42 ∷ 0x01 ∷ 0x01 ∷ 0xE1 ∷ 0x63 ∷ []) (refusal 11 7) (Ok 2)
    ∷ row (0x56 ∷ 0x02 ∷ 0x0E ∷ 0x61 ∷ 0x00 ∷ 0x00 ∷ 0x00 ∷ 0x00 ∷ 0x41 ∷ 0x7F ∷ 0x01 ∷ 0x01 ∷ 0xE1 ∷ 0x65 ∷ []) (refusal 11 8) (Ok 2)
    ∷ row (0x56 ∷ 0x02 ∷ 0x10 ∷ 0x80 ∷ 0x00 ∷ 0x00 ∷ 0x00 ∷ 0x00 ∷ 0x41 ∷ 0x42 ∷ 0x10 ∷ 0x27 ∷ 0x01 ∷ 0x01 ∷ 0xE1 ∷ 0x5A ∷ []) (refusal 11 10) (Ok 2)
    ∷ row (0x56 ∷ 0x02 ∷ 0x10 ∷ 0x81 ∷ 0x00 ∷ 0x00 ∷ 0x99 ∷ 0x63 ∷ 0x20 ∷ 0x7E ∷ 0x0F ∷ 0x27 ∷ 0x01 ∷ 0x01 ∷ 0xE1 ∷ 0xFE ∷ []) (Ok 2) (Ok 2)
    ∷ row (0x56 ∷ 0x02 ∷ 0x0E ∷ 0x61 ∷ 0x00 ∷ 0x00 ∷ 0x63 ∷ 0x00 ∷ 0x41 ∷ 0x42 ∷ 0x01 ∷ 0x01 ∷ 0xE1 ∷ 0xB0 ∷ []) (Ok 2) (Ok 2)
    ∷ row (0x56 ∷ 0x02 ∷ 0x0E ∷ 0x61 ∷ 0x00 ∷ 0x00 ∷ 0x7F ∷ 0x00 ∷ 0x41 ∷ 0x42 ∷ 0x01 ∷ 0x01 ∷ 0xE1 ∷ 0xFC ∷ []) (refusal 11 6) (Ok 2)
    ∷ row (0x56 ∷ 0x02 ∷ 0x0E ∷ 0x61 ∷ 0x00 ∷ 0x00 ∷ 0x80 ∷ 0x00 ∷ 0x41 ∷ 0x42 ∷ 0x01 ∷ 0x01 ∷ 0xE1 ∷ 0xB8 ∷ []) (Ok 2) (Ok 2)
    ∷ row (0x56 ∷ 0x02 ∷ 0x0E ∷ 0x61 ∷ 0x00 ∷ 0x00 ∷ 0x9A ∷ 0x00 ∷ 0x41 ∷ 0x42 ∷ 0x01 ∷ 0x01 ∷ 0xE1 ∷ 0x38 ∷ []) (refusal 11 6) (Ok 2)
    ∷ row (0x56 ∷ 0x02 ∷ 0x0E ∷ 0x61 ∷ 0x00 ∷ 0x00 ∷ 0x00 ∷ 0x00 ∷ 0x1F ∷ 0x42 ∷ 0x01 ∷ 0x01 ∷ 0xE1 ∷ 0x9A ∷ []) (refusal 11 8) (Ok 2)
    -- 10 before 11, though it lies behind it
    ∷ row (0x56 ∷ 0x02 ∷ 0x10 ∷ 0x61 ∷ 0x00 ∷ 0x00 ∷ 0x00 ∷ 0x64 ∷ 0x41 ∷ 0x42 ∷ 0x10 ∷ 0x01 ∷ 0x01 ∷ 0x01 ∷ 0xE1 ∷ 0xBD ∷ []) (refusal 10 11) (Ok 3)
    ∷ []

by-the-full-list : map (λ (r : Row). judged full r.image) rows ≡ map (λ (r : Row). r.full) rows
unfolding judged rule1 rule2 rule3 rule4 rule5 rule6 rule7 rule8 rule9 rule10 rule11 bad_index bad_revision bad_batch is_major first visit chain next head_size data_length pool split texts shape_of tab le16 crc8 reduce bring bits_of bits_of_all listed all is_text
by-the-full-list = refl

by-the-bare-list : map (λ (r : Row). judged bare r.image) rows ≡ map (λ (r : Row). r.bare) rows
unfolding judged rule1 rule2 rule3 rule4 rule5 rule6 rule7 rule8 rule9 rule10 rule11 bad_index bad_revision bad_batch is_major first visit chain next head_size data_length pool split texts shape_of tab le16 crc8 reduce bring bits_of bits_of_all listed all is_text
by-the-bare-list = refl
