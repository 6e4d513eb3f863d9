-- Examples of the choice: case 11 of paper 01 on images of case 13's layout, then damaged ones, and one lent with more than its StructLen bytes.
-- That they hold by computation is `rows-hold` of proofs/laws/Examples.antt. Further cases are run. Assumes nothing.
use Rattle.std.specs.Prelude.{ℕ, List, [], ◌∷◌, ◌++◌, take, Ok}
use Rattle.board_rules.specs.Examples.{zeros, four, head, short, eepr_map}
use Rattle.choice.specs.Choice.{choice_if, choice_of, part, chosen_of, Chosen, choice_said}
use Rattle.kinds.specs.Kinds.{full}
use Rattle.verdict.specs.Said.{Said, says, refused}
use Rattle.verdict.specs.Verdict.{refusal}
use Rattle.verdict.specs.Answers.{Judged}

-- ---- an image with this Crc32 and Version, BrdSerial "000" and a last character, and EcId
abbrev pub header : ℕ → ℕ → List ℕ
header check version =
    head (0x24 ∷ 0x45 ∷ 0x65 ∷ 0x70 ∷ 0x72 ∷ 0x6F ∷ 0x6D ∷ 0x24 ∷ []) 0x30 ++ four 0xE0 ++ four check ++ four 0xE0 ++ four version ++ zeros 16

abbrev pub brd_info : ℕ → ℕ → List ℕ
brd_info serial ec =
    head (0x24 ∷ 0x42 ∷ 0x72 ∷ 0x64 ∷ 0x49 ∷ 0x6E ∷ 0x66 ∷ 0x6F ∷ []) 0x60
    ++ (0x47 ∷ 0x77 ∷ 0x65 ∷ 0x6A ∷ 0x6C ∷ 0x75 ∷ 0x73 ∷ 0x61 ∷ zeros 8) ++ (0x72 ∷ 0x69 ∷ 0x67 ∷ zeros 13)
    ++ (0x30 ∷ 0x30 ∷ 0x30 ∷ serial ∷ zeros 12) ++ four 1 ++ four 2 ++ four ec ++ zeros 20

abbrev pub image : ℕ → ℕ → ℕ → ℕ → List ℕ
image check version serial ec = header check version ++ eepr_map 2 ++ brd_info serial ec

-- the same of Version 4 with the short header
abbrev pub shorter4 : List ℕ
shorter4 = short 0xD0 0xEB3F8F78 0xD0 ++ eepr_map 2 ++ brd_info 0x31 3

-- Version 3; Version 4; Version 4 with the short header; Version 4 with another BrdSerial, with another EcId, with three bytes more lent, with one too few, with
-- one bit of Crc32 changed
pub data Name : Type 0 where
  older : Name
  newer : Name
  short_newer : Name
  other_serial : Name
  other_ec : Name
  longer : Name
  shorter : Name
  damaged : Name

abbrev pub bytes : Name → List ℕ
bytes older = image 0x7BA3A2AE 3 0x31 3
bytes newer = image 0x971449AD 4 0x31 3
bytes short_newer = shorter4
bytes other_serial = image 0xA8DF3738 4 0x32 3
bytes other_ec = image 0xA60C7EDA 4 0x31 4
bytes longer = image 0x971449AD 4 0x31 3 ++ (1 ∷ 2 ∷ 3 ∷ [])
bytes shorter = take 0xDF (image 0x971449AD 4 0x31 3)
bytes damaged = image 0x971449AC 4 0x31 3

-- what the full list says of each
abbrev pub verdict : Name → Judged
verdict older = Ok 3
verdict newer = Ok 3
verdict short_newer = Ok 3
verdict other_serial = Ok 3
verdict other_ec = Ok 3
verdict longer = Ok 3
verdict shorter = refusal 22 0x10
verdict damaged = refusal 27 0x14

-- ---- firmware image, EEPROM image, what the choice says, and the part handed back
pub record Row : Type 0 where
  pub firmware : Name
  pub eeprom : Name
  pub said : Said Chosen
  pub part : List ℕ

abbrev pub row : Name → Name → Said Chosen → List ℕ → Row
row f e a l = record { firmware = f; eeprom = e; said = a; part = l }

abbrev pub firmware : Said Chosen
firmware = says (record { which = 0; length = 0xE0 })

abbrev pub eeprom : Said Chosen
eeprom = says (record { which = 1; length = 0xE0 })

abbrev pub rows : List Row
rows =
    -- case 11. "Same board, Versions 3 (firmware) and 4: EEPROM. Both 4: firmware."
    row older newer eeprom (bytes newer)
    ∷ row newer newer firmware (bytes newer)
    ∷ row newer older firmware (bytes newer)
    -- "Only BrdSerial differs, 3 and 4: EEPROM. EcId differs: firmware."
    ∷ row older other_serial eeprom (bytes other_serial)
    ∷ row older other_ec firmware (bytes older)
    -- one board, its map and board structure at other places: an EEPROM image with the short header, and a firmware image with the long one, and the other way
    ∷ row older short_newer (says (record { which = 1; length = 0xD0 })) (bytes short_newer)
    ∷ row newer short_newer firmware (bytes newer)
    ∷ row short_newer newer (says (record { which = 0; length = 0xD0 })) (bytes short_newer)
    -- one is refused: the other, whatever its Version
    ∷ row damaged older eeprom (bytes older)
    ∷ row older damaged firmware (bytes older)
    -- both are: firmware's refusal, and an empty part
    ∷ row damaged shorter (refused 27 0x14) []
    ∷ row shorter damaged (refused 22 0x10) []
    -- more is lent: the part is the first StructLen bytes
    ∷ row older longer eeprom (bytes newer)
    ∷ row longer older firmware (bytes newer)
    ∷ []

-- what the choice answers, and what it answers to the judge's answers
abbrev pub answered : Row → Said Chosen × List ℕ
answered r =
    (choice_said (choice_of full (bytes r.firmware) (bytes r.eeprom)), chosen_of full (bytes r.firmware) (bytes r.eeprom))

abbrev pub from_judged : Row → Said Chosen × List ℕ
from_judged r =
    let a = choice_if (bytes r.firmware) (bytes r.eeprom) (verdict r.firmware) (verdict r.eeprom) in
    (choice_said a, part (bytes r.firmware) (bytes r.eeprom) a)
