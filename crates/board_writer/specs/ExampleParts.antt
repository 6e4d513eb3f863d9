-- Small parts for the examples, those of case 13's layout first, and the images that the writer makes of them, by computation. Their bytes come from
-- board_rules' examples. Assumes nothing.
use Rattle.std.specs.Prelude.{ℕ, ◌≡◌, refl, replicate}
use mathlib.Core.List.{List, [], ◌∷◌, ◌++◌, flatten}
use Rattle.board.specs.declared.BrdInfoFields.{BrdInfoFields}
use Rattle.board_layout.specs.Layout.{round16, next}
use Rattle.board_layout.specs.declared.Header.{Header}
use Rattle.board_layout.specs.declared.Header.TheVariants.{Short, Long}
use Rattle.board_rules.specs.Examples as example
use Rattle.board_rules.specs.Rules.{prom_sig_at, covered, check_over}
use Rattle.board_writer.specs.Image.{zeros, laid_record, laid_records, body, laid, crc_length, check, image}
use Rattle.board_writer.specs.Parts.{Parts, parts}
use Rattle.board_writer.specs.declared.MapFields.{MapFields}
use Rattle.chain.specs.Chain.{visit, chain}
use Rattle.chain.specs.Fill.{tab}
use Rattle.chain.specs.First.{first}
use Rattle.crc.specs.Crc32.{crc32, shift, shifts, step32}
use Rattle.octets.specs.Bytes.{spelled, le32, le64}

-- a buffer of n bytes AAh
abbrev pub blank : ℕ → List ℕ
blank n = replicate n 0xAA

-- PartLabel "rig", BlkLength 4,096, PageSize 32, Master 1, Speed 2; PartSize varies
abbrev pub map_with : ℕ → MapFields
map_with size =
    record {
      partlabel = 0x72 ∷ 0x69 ∷ 0x67 ∷ 0x24 ∷ zeros 12;
      blklength = 4096;
      pagesize = 32;
      partsize = size;
      busnumber = 0;
      master = 1;
      speed = 2;
    }

abbrev pub map13 : MapFields
map13 = map_with 4096

-- ManuName "Gwejlusa", BrdName "rig", BrdSerial "0001"
abbrev pub board13 : BrdInfoFields
board13 =
    record {
      manuname = 0x47 ∷ 0x77 ∷ 0x65 ∷ 0x6A ∷ 0x6C ∷ 0x75 ∷ 0x73 ∷ 0x61 ∷ zeros 8;
      brdname = 0x72 ∷ 0x69 ∷ 0x67 ∷ zeros 13;
      brdserial = 0x30 ∷ 0x30 ∷ 0x30 ∷ 0x31 ∷ zeros 12;
      boardid = 1;
      fabid = 2;
      ecid = 3;
      boardtype = 0;
    }

-- a record: "top" and a digit, at an address
abbrev pub top : ℕ → ℕ → List ℕ
top digit address = 0x74 ∷ 0x6F ∷ 0x70 ∷ digit ∷ 0x24 ∷ zeros 11 ++ (address ∷ [])

-- with case 13's map and board, behind this header; and behind the long one
abbrev pub behind : Header → List ℕ → List ℕ → Parts
behind header records further = parts header 4 map13 records board13 further

abbrev pub given : List ℕ → List ℕ → Parts
given = behind Long

-- case 13: "top1" at address 50h, and nothing further
abbrev pub record13 : List ℕ
record13 = top 0x31 0x50

abbrev pub parts13 : Parts
parts13 = given record13 []

-- the same with the short header
abbrev pub short13 : Parts
short13 = behind Short record13 []

-- ---- the images that are made
abbrev pub image13 : List ℕ
image13 = example.image 0xE0 0x9714_49AD 0xE0 []

abbrev pub image_short : List ℕ
image_short = example.short 0xD0 0xEB3F_8F78 0xD0 ++ example.eepr_map 2 ++ example.brd_info 0x60 0

-- two records: Offsets 0 and BlkLength
abbrev pub parts2 : Parts
parts2 = parts Long 4 (map_with 8192) (record13 ++ top 0x32 0x51) board13 []

abbrev map2 : List ℕ
map2 =
    example.head (0x24 ∷ 0x45 ∷ 0x65 ∷ 0x70 ∷ 0x72 ∷ 0x4D ∷ 0x61 ∷ 0x70 ∷ []) 0x70
    ++ (0x72 ∷ 0x69 ∷ 0x67 ∷ 0x24 ∷ zeros 12) ++ example.four 4096 ++ (32 ∷ 0 ∷ []) ++ example.four 8192 ++ (0 ∷ 1 ∷ 2 ∷ zeros 3)
    ++ (0x74 ∷ 0x6F ∷ 0x70 ∷ 0x31 ∷ 0x24 ∷ zeros 11) ++ example.four 0x20 ++ example.four 0 ++ (0x50 ∷ zeros 7)
    ++ (0x74 ∷ 0x6F ∷ 0x70 ∷ 0x32 ∷ 0x24 ∷ zeros 11) ++ example.four 0x20 ++ example.four 4096 ++ (0x51 ∷ zeros 7)

abbrev pub image2 : List ℕ
image2 = example.header 0x100 0x523E_47A9 0x100 ++ map2 ++ example.brd_info 0x60 0

-- with a `$Logo$`; and with a `$PromSig`, whose check covers 20h of it
abbrev pub image_logo : List ℕ
image_logo = example.image 0x100 0x085B_AD6B 0x100 (example.logo 0x20 0)

abbrev pub image_signed : List ℕ
image_signed = example.image 0x110 0x6519_E838 0x100 (example.prom_sig 1)

record Made : Type 0 where
  case13 : image parts13 ≡ image13
  short : image short13 ≡ image_short
  two : image parts2 ≡ image2
  logo : image (given record13 (example.logo 0x20 0)) ≡ image_logo
  signed : image (given record13 (example.prom_sig 1)) ≡ image_signed

made : Made
unfolding image laid body laid_records laid_record crc_length check spelled tab flatten covered check_over prom_sig_at first chain visit next round16 le32 le64 crc32 shift shifts step32
made = record { case13 = refl; short = refl; two = refl; logo = refl; signed = refl }
