-- The judge's answers by computation: an image of case 13's layout (one record: map at 30h, board at 80h, StructLen E0h), the same with the short header (map at
-- 20h, board at 70h, StructLen D0h), and what one change makes of them.
-- Further cases are run. Assumes nothing.
use Rattle.std.specs.Prelude.{ℕ, ◌+◌, ◌*◌, ◌/◌, ◌%◌, List, [], ◌∷◌, ◌++◌, map, ◌≡◌, refl, replicate, Some, None, Ok}
use Rattle.board_fields.specs.Hash.{bad_hash, bad_hash_of, hash_size}
use Rattle.board_fields.specs.Heads.{bad_map_head, bad_board_head, bad_prom_sig_head}
use Rattle.board_fields.specs.Inside.{bad_inside}
use Rattle.board_fields.specs.Map.{bad_map, bad_map_field, bad_board_type}
use Rattle.board_fields.specs.Reserved.{reserved_used}
use Rattle.board_layout.specs.Layout.{shape_at, end_at, round16, next, map_at, board_at, later_at, records}
use Rattle.board_layout.specs.Shapes.{listed_shape, shape_of}
use Rattle.board_records.specs.Records.{bad_map_record, repeated_label}
use Rattle.board_rules.specs.Judged.{judged}
use Rattle.board_rules.specs.Rules.{rule20, rule21, rule22, rule23, rule24, rule25, rule26, rule27, rule28, rule29, rule30, rule31, rule32, rule33, rule34, misplaced, gap_used, expected, out_of_order, prom_sig_at, covered, check_over}
use Rattle.chain.specs.Chain.{visit, chain}
use Rattle.chain.specs.Fill.{tab}
use Rattle.chain.specs.First.{first}
use Rattle.crc.specs.Crc32.{crc32, shift, shifts, step32}
use Rattle.kinds.specs.Kinds.{all, full, bare}
use Rattle.octets.specs.Bytes.{le16, le32, le64}
use Rattle.octets.specs.Label.{is_text, is_label_text, text_end, bad_label}
use Rattle.octets.specs.Runs.{nonzero, difference, same_run}
use Rattle.verdict.specs.Verdict.{refusal}
use Rattle.verdict.specs.Answers.{Judged}

-- ---- parts of an image
abbrev pub zeros : ℕ → List ℕ
zeros n = replicate n 0

-- the four bytes of a number
abbrev pub four : ℕ → List ℕ
four n = n % 256 ∷ n / 256 % 256 ∷ n / 65536 % 256 ∷ n / 16777216 % 256 ∷ []

-- a generic head of version 1.0
abbrev pub head : List ℕ → ℕ → List ℕ
head signature length = signature ++ (1 ∷ 0 ∷ 0 ∷ 0 ∷ four length)

-- $Eeprom$ of this Length up to Reserved, Version 4
abbrev pub headed : ℕ → ℕ → ℕ → ℕ → List ℕ
headed length end check covers =
    head (0x24 ∷ 0x45 ∷ 0x65 ∷ 0x70 ∷ 0x72 ∷ 0x6F ∷ 0x6D ∷ 0x24 ∷ []) length ++ four end ++ four check ++ four covers ++ four 4

-- the long header, with Reserved, and the short one
abbrev pub header : ℕ → ℕ → ℕ → List ℕ
header end check covers = headed 0x30 end check covers ++ zeros 16

abbrev pub short : ℕ → ℕ → ℕ → List ℕ
short end check covers = headed 0x20 end check covers

-- $EeprMap: PartLabel "rig", BlkLength and PartSize 4,096, PageSize 32, Master 1; one record with this label, at address 50h
abbrev pub labelled : List ℕ → ℕ → List ℕ
labelled label speed =
    head (0x24 ∷ 0x45 ∷ 0x65 ∷ 0x70 ∷ 0x72 ∷ 0x4D ∷ 0x61 ∷ 0x70 ∷ []) 0x50
    ++ (0x72 ∷ 0x69 ∷ 0x67 ∷ 0x24 ∷ zeros 12) ++ four 4096 ++ (32 ∷ 0 ∷ []) ++ four 4096 ++ (0 ∷ 1 ∷ speed ∷ zeros 3)
    ++ label ++ four 0x20 ++ four 0 ++ (0x50 ∷ zeros 7)

-- with the label "top1"
abbrev pub eepr_map : ℕ → List ℕ
eepr_map speed = labelled (0x74 ∷ 0x6F ∷ 0x70 ∷ 0x31 ∷ 0x24 ∷ zeros 11) speed

-- $BrdInfo: ManuName "Gwejlusa", BrdName "rig", BrdSerial "0001", BoardId 1, FabId 2, EcId 3
abbrev pub brd_info : ℕ → ℕ → List ℕ
brd_info length type =
    head (0x24 ∷ 0x42 ∷ 0x72 ∷ 0x64 ∷ 0x49 ∷ 0x6E ∷ 0x66 ∷ 0x6F ∷ []) length
    ++ (0x47 ∷ 0x77 ∷ 0x65 ∷ 0x6A ∷ 0x6C ∷ 0x75 ∷ 0x73 ∷ 0x61 ∷ zeros 8) ++ (0x72 ∷ 0x69 ∷ 0x67 ∷ zeros 13)
    ++ (0x30 ∷ 0x30 ∷ 0x30 ∷ 0x31 ∷ zeros 12) ++ four 1 ++ four 2 ++ four 3 ++ (type ∷ zeros 19)

-- an image, with what follows the board structure
abbrev pub image : ℕ → ℕ → ℕ → List ℕ → List ℕ
image end check covers more = header end check covers ++ eepr_map 2 ++ brd_info 0x60 0 ++ more

-- $Logo$ of this Length, with this first reserved byte
abbrev pub logo : ℕ → ℕ → List ℕ
logo length used = head (0x24 ∷ 0x4C ∷ 0x6F ∷ 0x67 ∷ 0x6F ∷ 0x24 ∷ 0 ∷ 0 ∷ []) length ++ (used ∷ zeros 15)

-- $Fan, which no list has, of Length 18h
abbrev pub fan : List ℕ
fan = head (0x24 ∷ 0x46 ∷ 0x61 ∷ 0x6E ∷ zeros 4) 0x18 ++ (1 ∷ 2 ∷ 3 ∷ 4 ∷ 5 ∷ 6 ∷ 7 ∷ 8 ∷ [])

-- $PromSig of a type, with the sixteen bytes of hash that type 1, MD5, has
abbrev pub prom_sig : ℕ → List ℕ
prom_sig type =
    head (0x24 ∷ 0x50 ∷ 0x72 ∷ 0x6F ∷ 0x6D ∷ 0x53 ∷ 0x69 ∷ 0x67 ∷ []) 0x30 ++ (type ∷ zeros 15)
    ++ (0xEE ∷ 0xEE ∷ 0xEE ∷ 0xEE ∷ 0xEE ∷ 0xEE ∷ 0xEE ∷ 0xEE ∷ 0xEE ∷ 0xEE ∷ 0xEE ∷ 0xEE ∷ 0xEE ∷ 0xEE ∷ 0xEE ∷ 0xEE ∷ [])

-- an image, and what the full list says of it
pub record Row : Type 0 where
  pub image : List ℕ
  pub answer : Judged

abbrev row : List ℕ → Judged → Row
row s j = record { image = s; answer = j }

-- ---- rules 20 to 26, which come before the check
abbrev early : List Row
early =
    -- 20: nothing lent, and a byte too few
    row [] (refusal 20 0)
    ∷ row (zeros 0x1F) (refusal 20 0)
    -- 21: another signature; a Length that is neither, below, between and above
    ∷ row (zeros 0x20) (refusal 21 0)
    ∷ row (headed 0x1F 0x20 0 0) (refusal 21 0)
    ∷ row (headed 0x28 0x20 0 0 ++ zeros 16) (refusal 21 0)
    ∷ row (headed 0x40 0x20 0 0 ++ zeros 16) (refusal 21 0)
    -- 22: StructLen is a byte too few, and above what is lent
    ∷ row (image 0x2F 0 0 []) (refusal 22 0x10)
    ∷ row (image 0xE1 0 0 []) (refusal 22 0x10)
    -- 22: with the short header; and 2Fh bytes lent where Length is 30h, whatever StructLen is
    ∷ row (short 0x1F 0 0) (refusal 22 0x10)
    ∷ row (headed 0x30 0x2F 0 0 ++ zeros 15) (refusal 22 0x10)
    ∷ row (headed 0x30 0x30 0 0 ++ zeros 15) (refusal 22 0x10)
    -- 23: no '$' where the fourth structure is due
    ∷ row (image 0xF0 0 0 (zeros 16)) (refusal 23 0xE0)
    -- 23: a structure ends at F8h and StructLen is FAh: another is due at 100h, past StructLen
    ∷ row (image 0xFA 0 0 (fan ++ zeros 8)) (refusal 23 0x100)
    -- 23: the same where StructLen is the rounded end
    ∷ row (image 0x100 0 0 (fan ++ zeros 8)) (refusal 23 0x100)
    -- 24: a byte between structures
    ∷ row (image 0x120 0 0 (fan ++ (0 ∷ 0 ∷ 7 ∷ zeros 5) ++ logo 0x20 0)) (refusal 24 0xFA)
    -- 25: nothing after the header, a second map, `$PromSig` before another structure
    ∷ row (header 0x30 0 0) (refusal 25 0x30)
    ∷ row (short 0x20 0 0) (refusal 25 0x20)
    ∷ row (image 0x130 0 0 (eepr_map 2)) (refusal 25 0xE0)
    ∷ row (image 0x130 0 0 (prom_sig 1 ++ logo 0x20 0)) (refusal 25 0xE0)
    -- 26: the board structure has a byte too many
    ∷ row (header 0xE1 0 0 ++ eepr_map 2 ++ brd_info 0x61 0 ++ (0 ∷ [])) (refusal 26 0x80)
    ∷ []

early-hold : map (λ (r : Row). judged full r.image) early ≡ map (λ (r : Row). r.answer) early
unfolding judged rule20 rule21 rule22 rule23 rule24 rule25 rule26 rule27 rule28 rule29 rule30 rule31 rule32 rule33 rule34 misplaced gap_used expected out_of_order prom_sig_at covered check_over bad_map_head bad_board_head bad_prom_sig_head bad_hash bad_hash_of hash_size bad_map bad_map_field bad_map_record repeated_label bad_board_type reserved_used bad_inside shape_at shape_of listed_shape end_at round16 next map_at board_at later_at records visit chain first tab le16 le32 le64 nonzero is_text is_label_text text_end bad_label all
early-hold = refl

-- ---- rules 27 and 29, and acceptance
abbrev checked : List Row
checked =
    -- cases 10 and 13: the label is "top1", '$' and eleven zeros
    row (image 0xE0 0x971449AD 0xE0 []) (Ok 3)
    -- the same with the short header
    ∷ row (short 0xD0 0xEB3F8F78 0xD0 ++ eepr_map 2 ++ brd_info 0x60 0) (Ok 3)
    -- bytes lent past StructLen
    ∷ row (image 0xE0 0x971449AD 0xE0 (1 ∷ 2 ∷ 3 ∷ [])) (Ok 3)
    -- 27: one bit of Crc32; a CrcLength that Crc32 fits
    ∷ row (image 0xE0 0x971449AC 0xE0 []) (refusal 27 0x14)
    ∷ row (image 0xE0 0xAB712540 0xE1 []) (refusal 27 0x18)
    -- the check covers `$PromSig` up to EepromSig; 27: the check over EepromSig too
    ∷ row (image 0x110 0x6519E838 0x100 (prom_sig 1)) (Ok 4)
    ∷ row (image 0x110 0x6F8BA61D 0x110 (prom_sig 1)) (refusal 27 0x14)
    -- 29: type 6
    ∷ row (image 0x110 0x98E0104D 0x100 (prom_sig 6)) (refusal 29 0xF0)
    ∷ []

checked-hold : map (λ (r : Row). judged full r.image) checked ≡ map (λ (r : Row). r.answer) checked
unfolding judged rule20 rule21 rule22 rule23 rule24 rule25 rule26 rule27 rule28 rule29 rule30 rule31 rule32 rule33 rule34 misplaced gap_used expected out_of_order prom_sig_at covered check_over bad_map_head bad_board_head bad_prom_sig_head bad_hash bad_hash_of hash_size bad_map bad_map_field bad_map_record repeated_label bad_board_type reserved_used bad_inside shape_at shape_of listed_shape end_at round16 next map_at board_at later_at records visit chain first tab le16 le32 le64 nonzero is_text is_label_text text_end bad_label all crc32 shift shifts step32
checked-hold = refl

-- ---- rule 28, case 12: the board structure behind a header and a map of n records, of which it reads the heads alone
abbrev behind : List ℕ → ℕ → List ℕ
behind first n =
    first
    ++ head (0x24 ∷ 0x45 ∷ 0x65 ∷ 0x70 ∷ 0x72 ∷ 0x4D ∷ 0x61 ∷ 0x70 ∷ []) (0x30 + 0x20 * n)
    ++ zeros (0x20 + 0x20 * n)
    ++ brd_info 0x60 0

case-12 : map rule28 (behind (header 0 0 0) 122 ∷ behind (header 0 0 0) 123 ∷ []) ≡ None ∷ Some 0xFC0 ∷ []
unfolding rule28 end_at round16 next map_at board_at tab le32
case-12 = refl

-- "122 map records remain the most: they end at FF0h with the short header", and 123 at 1010h
short-12 : map rule28 (behind (short 0 0 0) 122 ∷ behind (short 0 0 0) 123 ∷ []) ≡ None ∷ Some 0xFB0 ∷ []
unfolding rule28 end_at round16 next map_at board_at tab le32
short-12 = refl

short-ends : map (λ s. end_at s (board_at s)) (behind (short 0 0 0) 122 ∷ behind (short 0 0 0) 123 ∷ []) ≡ 0xFF0 ∷ 0x1010 ∷ []
unfolding end_at round16 next map_at board_at tab le32
short-ends = refl

-- ---- rules 30 and 31
abbrev fields : List Row
fields =
    -- 30: Speed 4, behind each header
    row (header 0xE0 0x433A538C 0xE0 ++ eepr_map 4 ++ brd_info 0x60 0) (refusal 30 0x5C)
    ∷ row (short 0xD0 0x3F119559 0xD0 ++ eepr_map 4 ++ brd_info 0x60 0) (refusal 30 0x4C)
    -- 30, case 10: a label of sixteen zeros
    ∷ row (header 0xE0 0x8429D5EA 0xE0 ++ labelled (zeros 16) 2 ++ brd_info 0x60 0) (refusal 30 0x60)
    -- 31: BoardType 2
    ∷ row (header 0xE0 0x5DDA3F21 0xE0 ++ eepr_map 2 ++ brd_info 0x60 2) (refusal 31 0xCC)
    ∷ []

fields-hold : map (λ (r : Row). judged full r.image) fields ≡ map (λ (r : Row). r.answer) fields
unfolding judged rule20 rule21 rule22 rule23 rule24 rule25 rule26 rule27 rule28 rule29 rule30 rule31 rule32 rule33 rule34 misplaced gap_used expected out_of_order prom_sig_at covered check_over bad_map_head bad_board_head bad_prom_sig_head bad_hash bad_hash_of hash_size bad_map bad_map_field bad_map_record repeated_label bad_board_type reserved_used bad_inside shape_at shape_of listed_shape end_at round16 next map_at board_at later_at records visit chain first tab le16 le32 le64 nonzero is_text is_label_text text_end bad_label all crc32 shift shifts step32
fields-hold = refl

-- ---- rule 34: a map of this VerMinor and Speed, with two records whose labels are four characters, '$' and zeros; a board of this BoardType
abbrev record_at : ℕ → List ℕ → List ℕ
record_at offset text = text ++ (0x24 ∷ zeros 11) ++ four 0x20 ++ four offset ++ (0x50 ∷ zeros 7)

abbrev two : ℕ → ℕ → List ℕ → List ℕ → ℕ → ℕ → List ℕ
two check minor text other speed type =
    header 0x100 check 0x100
    ++ (0x24 ∷ 0x45 ∷ 0x65 ∷ 0x70 ∷ 0x72 ∷ 0x4D ∷ 0x61 ∷ 0x70 ∷ 1 ∷ 0 ∷ minor ∷ 0 ∷ four 0x70)
    ++ (0x72 ∷ 0x69 ∷ 0x67 ∷ 0x24 ∷ zeros 12) ++ four 4096 ++ (32 ∷ 0 ∷ []) ++ four 8192 ++ (0 ∷ 1 ∷ speed ∷ zeros 3)
    ++ record_at 0 text ++ record_at 4096 other
    ++ brd_info 0x60 type

-- "top1" and "top2"
abbrev top1 : List ℕ
top1 = 0x74 ∷ 0x6F ∷ 0x70 ∷ 0x31 ∷ []

abbrev top2 : List ℕ
top2 = 0x74 ∷ 0x6F ∷ 0x70 ∷ 0x32 ∷ []

abbrev labels : List Row
labels =
    row (two 0x5E808744 0 top1 top2 2 0) (Ok 3)
    -- 34 "comes after 30": Speed 4
    ∷ row (two 0x50BD608C 0 top1 top1 4 0) (refusal 30 0x5C)
    -- "and before 31": BoardType 2
    ∷ row (two 0xCF0C54DA 0 top1 top1 2 2) (refusal 34 0x80)
    ∷ []

labels-hold : map (λ (r : Row). judged full r.image) labels ≡ map (λ (r : Row). r.answer) labels
unfolding judged rule20 rule21 rule22 rule23 rule24 rule25 rule26 rule27 rule28 rule29 rule30 rule31 rule32 rule33 rule34 misplaced gap_used expected out_of_order prom_sig_at covered check_over bad_map_head bad_board_head bad_prom_sig_head bad_hash bad_hash_of hash_size bad_map bad_map_field bad_map_record repeated_label bad_board_type reserved_used bad_inside shape_at shape_of listed_shape end_at round16 next map_at board_at later_at records visit chain first tab le16 le32 le64 nonzero difference same_run is_text is_label_text text_end bad_label all crc32 shift shifts step32
labels-hold = refl

-- "refused by every reader": also by the one with the bare list; and under a VerMinor above 0, which "lifts only rule 32"
bare-refuses : judged bare (two 0x8BC5CC8C 1 top1 top1 2 0) ≡ refusal 34 0x80
unfolding judged rule20 rule21 rule22 rule23 rule24 rule25 rule26 rule27 rule28 rule29 rule30 rule31 rule32 rule33 rule34 misplaced gap_used expected out_of_order prom_sig_at covered check_over bad_map_head bad_board_head bad_prom_sig_head bad_hash bad_hash_of hash_size bad_map bad_map_field bad_map_record repeated_label bad_board_type reserved_used bad_inside shape_at shape_of listed_shape end_at round16 next map_at board_at later_at records visit chain first tab le16 le32 le64 nonzero difference same_run is_text is_label_text text_end bad_label all crc32 shift shifts step32
bare-refuses = refl

-- ---- rules 32 and 33 on a structure that the full list knows, and the bare list does not
abbrev known : List Row
known =
    row (image 0x100 0x085BAD6B 0x100 (logo 0x20 0)) (Ok 4)
    -- 32: a reserved byte
    ∷ row (image 0x100 0xA6333CFA 0x100 (logo 0x20 1)) (refusal 32 0xF0)
    -- 33: under its fixed part, and then its reserved field is not read
    ∷ row (image 0xF8 0xF9BEC7BA 0xF8 (logo 0x18 0)) (refusal 33 0xE0)
    ∷ []

known-hold : map (λ (r : Row). judged full r.image) known ≡ map (λ (r : Row). r.answer) known
unfolding judged rule20 rule21 rule22 rule23 rule24 rule25 rule26 rule27 rule28 rule29 rule30 rule31 rule32 rule33 rule34 misplaced gap_used expected out_of_order prom_sig_at covered check_over bad_map_head bad_board_head bad_prom_sig_head bad_hash bad_hash_of hash_size bad_map bad_map_field bad_map_record repeated_label bad_board_type reserved_used bad_inside shape_at shape_of listed_shape end_at round16 next map_at board_at later_at records visit chain first tab le16 le32 le64 nonzero is_text is_label_text text_end bad_label all crc32 shift shifts step32
known-hold = refl

not-known-hold : map (λ (r : Row). judged bare r.image) known ≡ Ok 4 ∷ Ok 4 ∷ Ok 4 ∷ []
unfolding judged rule20 rule21 rule22 rule23 rule24 rule25 rule26 rule27 rule28 rule29 rule30 rule31 rule32 rule33 rule34 misplaced gap_used expected out_of_order prom_sig_at covered check_over bad_map_head bad_board_head bad_prom_sig_head bad_hash bad_hash_of hash_size bad_map bad_map_field bad_map_record repeated_label bad_board_type reserved_used bad_inside shape_at shape_of listed_shape end_at round16 next map_at board_at later_at records visit chain first tab le16 le32 le64 nonzero is_text is_label_text text_end bad_label all crc32 shift shifts step32
not-known-hold = refl
