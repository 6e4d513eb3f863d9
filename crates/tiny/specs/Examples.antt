-- Answers by computation, as one statement over a table: case 14 of paper 01 (case 4 with 01 off the list), and the refusals 42, 43 and 44 and their order.
-- A refused name leaves the lent buffer as it was. Assumes nothing.
use Rattle.std.specs.Prelude.{ℕ, not, List, [], ◌∷◌, ◌≡◌, refl, replicate}
use Rattle.chain.specs.All.{All}
use Rattle.chain.specs.Chain.{visit, chain}
use Rattle.chain.specs.Fill.{tab}
use Rattle.chain.specs.First.{first}
use Rattle.chain.specs.Keep.{keep, only}
use Rattle.chain.specs.Nth.{nth}
use Rattle.crc.specs.Crc8.{crc8, reduce, bring, bits_of, bits_of_all}
use Rattle.kinds.specs.Kinds.{listed, picked, all, full, same}
use Rattle.kinds.specs.declared.Kind.TheVariants.{Tag}
use Rattle.kinds.specs.declared.Kinds.{Kinds}
use Rattle.octets.specs.Label.{is_text}
use Rattle.tiny_layout.specs.Layout.{head_size, data_length, next}
use Rattle.tiny_layout.specs.Pool.{pool}
use Rattle.tiny_layout.specs.Strings.{split, texts, string_end, reference}
use Rattle.tiny_layout.specs.Tags.{shape_of}
use Rattle.tiny_rules.specs.Judged.{judged}
use Rattle.tiny_rules.specs.Rules.{rule1, rule2, rule3, rule4, rule5, rule6, rule7, rule8, rule9, rule10, rule11, bad_index}
use Rattle.tiny.specs.Answers.{item_numbered, string_numbered, name_of}
use Rattle.tiny.specs.Cases.{case4, case5}
use Rattle.tiny.specs.Items.{item_at}
use Rattle.tiny.specs.Values.{ReferenceValue, text, undecodable, serial, ItemValues, item_said, string_said, name_said}
use Rattle.verdict.specs.Said.{Said, says, refused}

-- a row of the table: a reader's list, an image, what is asked, and what is said
data Example : Type 0 where
  item : Kinds → List ℕ → ℕ → Said ItemValues → Example
  string : Kinds → List ℕ → ℕ → Said ReferenceValue → Example
  -- the name, with what a lent buffer holds before and after
  name : Kinds → List ℕ → List ℕ → Said ℕ → List ℕ → Example

abbrev Holds : Example → Type 0
Holds (item k image n said) = item_said image (item_numbered k image n) ≡ said
Holds (string k image n said) = string_said image (string_numbered k image n) ≡ said
Holds (name k image before said after) = (name_said (name_of k image before).0 ≡ said) × ((name_of k image before).1 ≡ after)

-- every kind but the pool
abbrev poolless : Kinds
poolless = picked (λ kind. not (same kind (Tag 0x01)))

abbrev top1 : List ℕ
top1 = 0x74 ∷ 0x6F ∷ 0x70 ∷ 0x31 ∷ []

-- two serials, and a pool of the string top1
abbrev two_serials : List ℕ
two_serials = 0x56 ∷ 0x02 ∷ 0x0E ∷ 0x10 ∷ 0x00 ∷ 0x10 ∷ 0x00 ∷ 0x01 ∷ 0x04 ∷ 0x74 ∷ 0x6F ∷ 0x70 ∷ 0xB1 ∷ 0xA2 ∷ []

abbrev examples : List Example
examples =
    -- case 14: the serial and each string looked up are undecodable, and there is no name
    item poolless case4 0 (says (record { kind = 0x10; place = 3; length = 1; fields = serial undecodable }))
    ∷ name poolless case4 (replicate 6 0xAA) (refused 44 0) (replicate 6 0xAA)
    ∷ string poolless case4 0 (says undecodable)
    ∷ string poolless case4 7 (says undecodable)
    -- the same with 01 on the list
    ∷ item full case4 0 (says (record { kind = 0x10; place = 3; length = 1; fields = serial (text top1) }))
    ∷ string full case4 0 (says (text top1))
    -- 42: no item, no string of that number
    ∷ item full case4 2 (refused 42 0)
    ∷ string full case4 1 (refused 42 0)
    ∷ string full case5 0 (refused 42 0)
    -- 43: the buffer is too short
    ∷ name full case4 (replicate 3 0xAA) (refused 43 0) (replicate 3 0xAA)
    -- 44: two serials; and 44 comes before 43
    ∷ name full two_serials (replicate 6 0xAA) (refused 44 0) (replicate 6 0xAA)
    ∷ name full two_serials (replicate 3 0xAA) (refused 44 0) (replicate 3 0xAA)
    -- the image's own refusal comes before all
    ∷ name full [] [] (refused 1 0) []
    ∷ []

examples-hold : All Holds examples
unfolding judged rule1 rule2 rule3 rule4 rule5 rule6 rule7 rule8 rule9 rule10 rule11 bad_index item_numbered string_numbered name_of item_at first visit chain keep only nth next head_size data_length pool split texts string_end reference shape_of tab crc8 reduce bring bits_of bits_of_all listed picked all same is_text
examples-hold =
    (refl, ((refl, refl), (refl, (refl, (refl, (refl, (refl, (refl, (refl, ((refl, refl), ((refl, refl), ((refl, refl), ((refl, refl), tt)))))))))))))
