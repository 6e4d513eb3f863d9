-- The paper's table at two images: one with the major and the minor of its item out of range, and one that breaks no rule. The judge's answer is computed, and
-- the theorem turns it into what the table says. Assumes nothing.
use Rattle.std.specs.Prelude.{ℕ, List, [], ◌∷◌, ◌≡◌, refl, length}
use Rattle.std.proofs.Common.{inl, arith}
use Rattle.chain.specs.Chain.{visit, chain}
use Rattle.chain.specs.Fill.{tab}
use Rattle.chain.specs.First.{first}
use Rattle.chain.specs.Nth.{nth}
use Rattle.crc.specs.Crc8.{crc8, reduce, bring, bits_of, bits_of_all}
use Rattle.kinds.specs.Kinds.{listed, all, full}
use Rattle.octets.specs.Bytes.{le16}
use Rattle.octets.specs.Label.{is_text}
use Rattle.tiny_layout.specs.Layout.{head_size, data_length, next, items}
use Rattle.tiny_layout.specs.Pool.{pool}
use Rattle.tiny_layout.specs.Strings.{split, texts}
use Rattle.tiny_layout.specs.Tags.{shape_of}
use Rattle.tiny_rules.specs.Broken.{Broken11, minor_out_of_range, table}
use Rattle.tiny_rules.specs.Judged.{judged}
use Rattle.tiny_rules.specs.Rules.{rule1, rule2, rule3, rule4, rule5, rule6, rule7, rule8, rule9, rule10, rule11, bad_index, bad_revision, bad_batch, is_major}
use Rattle.tiny_rules.proofs.laws.Table.{refused-exactly, accepted-exactly}
use Rattle.verdict.specs.Table.{Unbroken, FirstBroken}

-- an item of tag 61 with major 64h at place 6 and minor 64h at place 7, and a pool of one string
abbrev twice : List ℕ
twice =
    0x56 ∷ 0x02 ∷ 0x0E ∷ 0x61 ∷ 0x00 ∷ 0x00 ∷ 0x64 ∷ 0x64 ∷ 0x41 ∷ 0x42 ∷ 0x01 ∷ 0x01 ∷ 0xE1 ∷ 0x4A ∷ []

-- the minor breaks rule 11 at place 7
minor-broken : Broken11 full twice 7
unfolding nth visit chain next head_size data_length shape_of listed all
minor-broken = minor_out_of_range 3 (inl (((0, refl), refl), refl)) refl (omega arith)

-- but the smallest place is the major's, and no lower rule is broken
major-first : FirstBroken (table full twice) 11 6
unfolding judged rule1 rule2 rule3 rule4 rule5 rule6 rule7 rule8 rule9 rule10 rule11 bad_index bad_revision bad_batch is_major first visit chain next head_size data_length pool split texts shape_of tab le16 crc8 reduce bring bits_of bits_of_all listed all is_text
major-first = (refused-exactly full twice 11 6).0 refl

-- the same with both in range, at their upper bounds: no rule is broken
abbrev sound : List ℕ
sound =
    0x56 ∷ 0x02 ∷ 0x0E ∷ 0x61 ∷ 0x00 ∷ 0x00 ∷ 0x99 ∷ 0x63 ∷ 0x41 ∷ 0x42 ∷ 0x01 ∷ 0x01 ∷ 0xE1 ∷ 0x68 ∷ []

none-broken : Unbroken (table full sound) × (length (items sound) ≡ 2)
unfolding judged rule1 rule2 rule3 rule4 rule5 rule6 rule7 rule8 rule9 rule10 rule11 bad_index bad_revision bad_batch is_major first visit chain next head_size data_length pool split texts shape_of tab le16 crc8 reduce bring bits_of bits_of_all listed all is_text
none-broken = (accepted-exactly full sound 2).0 refl
