-- Cases 1 to 10 of paper 01 as one statement over a table, proved by computation. A row is of one of several sorts, and `Holds` says what each sort
-- states; every reader here has the full list. Assumes nothing.
use Rattle.std.specs.Prelude.{ℕ, Bool, true, false, List, [], ◌∷◌, ◌≡◌, refl, replicate, Some, None, Ok}
use Rattle.chain.specs.All.{All}
use Rattle.chain.specs.Chain.{visit, chain}
use Rattle.chain.specs.Fill.{tab}
use Rattle.chain.specs.First.{first}
use Rattle.chain.specs.Keep.{keep, only}
use Rattle.chain.specs.Nth.{nth}
use Rattle.chain.specs.Found.{Found}
use Rattle.crc.specs.Crc8.{crc8, reduce, bring, bits_of, bits_of_all}
use Rattle.kinds.specs.Kinds.{listed, all, full}
use Rattle.octets.specs.Bytes.{le16}
use Rattle.octets.specs.Label.{is_text, is_label_text, text_end, bad_label}
use Rattle.octets.specs.Runs.{nonzero}
use Rattle.tiny_layout.specs.Layout.{head_size, data_length, next}
use Rattle.tiny_layout.specs.Pool.{pool}
use Rattle.tiny_layout.specs.Strings.{split, texts, string_end, reference}
use Rattle.tiny_layout.specs.Tags.{shape_of}
use Rattle.tiny_rules.specs.Judged.{judged}
use Rattle.tiny_rules.specs.Rules.{rule1, rule2, rule3, rule4, rule5, rule6, rule7, rule8, rule9, rule10, rule11, bad_index, is_major, is_batch, bad_revision, bad_batch}
use Rattle.tiny.specs.Answers.{item_numbered, name_of}
use Rattle.tiny.specs.Items.{item_at, identity_at, batched_at}
use Rattle.tiny.specs.Major.{major_text}
use Rattle.tiny.specs.Values.{text, IdentityValues, flags, identity, batched, ItemValues, item_said}
use Rattle.verdict.specs.Said.{says}
use Rattle.verdict.specs.Verdict.{refusal}
use Rattle.verdict.specs.Answers.{Judged}

-- a row of the table
pub data Case : Type 0 where
  -- what the judge answers of an image
  judges : List ℕ → Judged → Case
  -- what the item of a number shows
  shows : List ℕ → ℕ → ItemValues → Case
  -- the name: its length, and what a lent buffer held before and holds after
  names : List ℕ → List ℕ → ℕ → List ℕ → Case
  -- a major in range, with its two characters; and one out of range
  major : ℕ → List ℕ → Case
  no_major : ℕ → Case
  -- whether a batch is in range
  batch : ℕ → Bool → Case
  -- where the label at the front of a list is bad
  label : List ℕ → Found → Case

-- what a row states
abbrev pub Holds : Case → Type 0
Holds (judges image answer) = judged full image ≡ answer
Holds (shows image n values) = item_said image (item_numbered full image n) ≡ says values
Holds (names image before count after) = name_of full image before ≡ (Ok count, after)
Holds (major m characters) = (is_major m ≡ true) × (major_text m ≡ characters)
Holds (no_major m) = is_major m ≡ false
Holds (batch b in_range) = is_batch b ≡ in_range
Holds (label l bad) = bad_label l 0 ≡ bad

-- the image of case 4: a serial, string 0, and a pool of one string, top1
abbrev pub case4 : List ℕ
case4 = 0x56 ∷ 0x02 ∷ 0x0C ∷ 0x10 ∷ 0x00 ∷ 0x01 ∷ 0x04 ∷ 0x74 ∷ 0x6F ∷ 0x70 ∷ 0xB1 ∷ 0x57 ∷ []

-- the image of case 5: flags
abbrev pub case5 : List ℕ
case5 = 0x56 ∷ 0x02 ∷ 0x06 ∷ 0x11 ∷ 0x0F ∷ 0x8F ∷ []

-- an identity with this major at place 6, and what it shows: the strings top1 and P7, major with its letters, minor 5, 'A' and 'B'
abbrev identified : ℕ → ℕ → List ℕ
identified m check =
    0x56 ∷ 0x02 ∷ 0x13 ∷ 0x61 ∷ 0x00 ∷ 0x01 ∷ m ∷ 0x05 ∷ 0x41 ∷ 0x42 ∷ 0x01 ∷ 0x06 ∷ 0x74 ∷ 0x6F ∷ 0x70 ∷ 0xB1 ∷ 0x50 ∷ 0xB7 ∷ check ∷ []

abbrev identity_shown : ℕ → List ℕ → IdentityValues
identity_shown m letters =
    record {
      serial = text (0x74 ∷ 0x6F ∷ 0x70 ∷ 0x31 ∷ []);
      part = text (0x50 ∷ 0x37 ∷ []);
      major = m;
      letters = letters;
      minor = 5;
      characters = 0x41 ∷ 0x42 ∷ [];
    }

-- the same with major 12h and a batch, of these two bytes at place 10
abbrev in_batch : ℕ → ℕ → ℕ → List ℕ
in_batch low high check =
    0x56 ∷ 0x02 ∷ 0x15 ∷ 0x81 ∷ 0x00 ∷ 0x01 ∷ 0x12 ∷ 0x05 ∷ 0x41 ∷ 0x42 ∷ low ∷ high ∷ 0x01 ∷ 0x06 ∷ 0x74 ∷ 0x6F ∷ 0x70 ∷ 0xB1 ∷ 0x50 ∷ 0xB7 ∷ check ∷ []

-- the rows, each with the number of its case
abbrev pub table : List Case
table =
    -- 1
    judges [] (refusal 1 0)
    -- 2
    ∷ judges (0x56 ∷ 0x02 ∷ 0x04 ∷ 0x6F ∷ []) (Ok 0)
    -- 3
    ∷ judges (0x56 ∷ 0x02 ∷ 0x04 ∷ 0x6E ∷ []) (refusal 5 3)
    -- 4
    ∷ judges case4 (Ok 2)
    ∷ names case4 (replicate 6 0xAA) 4 (0x74 ∷ 0x6F ∷ 0x70 ∷ 0x31 ∷ 0xAA ∷ 0xAA ∷ [])
    -- 5
    ∷ judges case5 (Ok 1)
    ∷ shows case5 0 (record { kind = 0x11; place = 3; length = 1; fields = flags 0x0F })
    -- 6
    ∷ judges (0x56 ∷ 0x03 ∷ 0x04 ∷ 0x6F ∷ []) (refusal 3 1)
    -- 7
    ∷ judges (0x56 ∷ 0x02 ∷ 0x05 ∷ 0x6F ∷ []) (refusal 4 2)
    -- 8: '99' and '0Z'
    ∷ major 0x63 (0x39 ∷ 0x39 ∷ [])
    ∷ no_major 0x64
    ∷ major 0x99 (0x30 ∷ 0x5A ∷ [])
    ∷ no_major 0x9A
    -- 8, in images: shown, or refused at the major
    ∷ shows (identified 0x63 0xCF) 0 (record { kind = 0x61; place = 3; length = 6; fields = identity (identity_shown 0x63 (0x39 ∷ 0x39 ∷ [])) })
    ∷ judges (identified 0x64 0x5B) (refusal 11 6)
    ∷ shows (identified 0x99 0xA6) 0 (record { kind = 0x61; place = 3; length = 6; fields = identity (identity_shown 0x99 (0x30 ∷ 0x5A ∷ [])) })
    ∷ judges (identified 0x9A 0x41) (refusal 11 6)
    -- 9
    ∷ batch 9999 true
    ∷ batch 10000 false
    -- 9, in images: 270Fh is shown, 2710h refused at its first byte
    ∷ shows (in_batch 0x0F 0x27 0x64) 0 (record { kind = 0x81; place = 3; length = 8; fields = batched (identity_shown 0x12 (0x31 ∷ 0x38 ∷ [])) 9999 })
    ∷ judges (in_batch 0x10 0x27 0xA0) (refusal 11 10)
    -- 10: "top1", '$' and eleven zeros; sixteen zeros. (In board images: Examples.antt of board_rules.)
    ∷ label (0x74 ∷ 0x6F ∷ 0x70 ∷ 0x31 ∷ 0x24 ∷ replicate 11 0) None
    ∷ label (replicate 16 0) (Some 0)
    ∷ []

-- every row holds
pub cases-hold : All Holds table
unfolding judged rule1 rule2 rule3 rule4 rule5 rule6 rule7 rule8 rule9 rule10 rule11 bad_index is_major bad_revision bad_batch item_numbered item_at identity_at batched_at name_of major_text first visit chain keep only nth next head_size data_length pool split texts string_end reference shape_of tab le16 crc8 reduce bring bits_of bits_of_all listed all is_text is_label_text text_end bad_label nonzero
cases-hold =
    (refl, (refl, (refl, (refl, (refl, (refl, (refl, (refl, (refl, ((refl, refl), (refl, ((refl, refl), (refl, (refl, (refl, (refl, (refl, (refl, (refl, (refl, (refl, (refl, (refl, tt)))))))))))))))))))))))
