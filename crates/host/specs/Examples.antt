-- The numbers that C gets for cases of paper 01, and what it takes out of them, by computation. Every reader here has the full list. Assumes nothing.
use Rattle.std.specs.Prelude.{ℕ, List, [], ◌∷◌, map, ◌≡◌, refl, replicate}
use Rattle.chain.specs.Chain.{visit, chain}
use Rattle.chain.specs.Fill.{tab}
use Rattle.chain.specs.First.{first}
use Rattle.chain.specs.Keep.{keep, only}
use Rattle.chain.specs.Nth.{nth}
use Rattle.choice.specs.Choice.{Chosen}
use Rattle.crc.specs.Crc8.{crc8, reduce, bring, bits_of, bits_of_all}
use Rattle.host.specs.Numbers.{number, chosen_number, numbered, taken, taken_choice}
use Rattle.kinds.specs.Kinds.{listed, all, full}
use Rattle.octets.specs.Label.{is_text}
use Rattle.tiny.specs.Answers.{name_of}
use Rattle.tiny.specs.Cases.{case4}
use Rattle.tiny.specs.Items.{item_at}
use Rattle.tiny.specs.Values.{name_said}
use Rattle.tiny_layout.specs.Layout.{head_size, data_length, next}
use Rattle.tiny_layout.specs.Pool.{pool}
use Rattle.tiny_layout.specs.Strings.{split, texts, string_end, reference}
use Rattle.tiny_layout.specs.Tags.{shape_of}
use Rattle.tiny_rules.specs.Judged.{judged}
use Rattle.tiny_rules.specs.Rules.{rule1, rule2, rule3, rule4, rule5, rule6, rule7, rule8, rule9, rule10, rule11, bad_index}
use Rattle.verdict.specs.Said.{Said, says, refused, judged_said}

-- an image, the number for what the judge says of it, and what is taken out of that number
record Row : Type 0 where
  image : List ℕ
  number : ℕ
  said : Said ℕ

abbrev row : List ℕ → ℕ → Said ℕ → Row
row s n a = record { image = s; number = n; said = a }

-- the rows, each with the number of its case
abbrev rows : List Row
rows =
    -- 1
    row [] 0x100000000 (refused 1 0)
    -- 2
    ∷ row (0x56 ∷ 0x02 ∷ 0x04 ∷ 0x6F ∷ []) 0x000000000 (says 0)
    -- 3
    ∷ row (0x56 ∷ 0x02 ∷ 0x04 ∷ 0x6E ∷ []) 0x500000003 (refused 5 3)
    -- 4
    ∷ row case4 0x000000002 (says 2)
    -- 6
    ∷ row (0x56 ∷ 0x03 ∷ 0x04 ∷ 0x6F ∷ []) 0x300000001 (refused 3 1)
    -- 7
    ∷ row (0x56 ∷ 0x02 ∷ 0x05 ∷ 0x6F ∷ []) 0x400000002 (refused 4 2)
    ∷ []

judge-numbers : map (λ (r : Row). number (judged_said (judged full r.image))) rows ≡ map (λ (r : Row). r.number) rows
unfolding judged rule1 rule2 rule3 rule4 rule5 rule6 rule7 rule8 rule9 rule10 rule11 bad_index first visit chain next head_size data_length pool split texts shape_of tab crc8 reduce bring bits_of bits_of_all listed all is_text
judge-numbers = refl

taken-out : map (λ (r : Row). taken r.number) rows ≡ map (λ (r : Row). r.said) rows
taken-out = refl

-- case 4: the name into a buffer of so many bytes, each AAh before
abbrev named : ℕ → ℕ × List ℕ
named room = numbered name_said (name_of full case4 (replicate room 0xAA))

-- room for "top1": its length
name-fits : named 4 ≡ (0x000000004, 0x74 ∷ 0x6F ∷ 0x70 ∷ 0x31 ∷ [])
unfolding name_of judged rule1 rule2 rule3 rule4 rule5 rule6 rule7 rule8 rule9 rule10 rule11 bad_index item_at first visit chain keep only nth next head_size data_length pool split texts string_end reference shape_of tab crc8 reduce bring bits_of bits_of_all listed all is_text
name-fits = refl

-- one byte less: 43 at 0, and the buffer as it was
name-too-long : named 3 ≡ (0x2B00000000, 0xAA ∷ 0xAA ∷ 0xAA ∷ [])
unfolding name_of judged rule1 rule2 rule3 rule4 rule5 rule6 rule7 rule8 rule9 rule10 rule11 bad_index item_at first visit chain keep only nth next head_size data_length pool split texts string_end reference shape_of tab crc8 reduce bring bits_of bits_of_all listed all is_text
name-too-long = refl

-- the EEPROM image of case 11, E0h bytes
abbrev chosen : Chosen
chosen = record { which = 1; length = 0xE0 }

choice-number : chosen_number (says chosen) ≡ 0x100000000E0
choice-number = refl

choice-taken : taken_choice 0x100000000E0 ≡ says chosen
choice-taken = refl
