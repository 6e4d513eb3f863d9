-- What the writer answers, by computation: each refusal of its own and of the reader's, and what is written, with the whole buffer after the call; and case 13
-- written, read back and accepted. Assumes nothing.
use Rattle.std.specs.Prelude.{ℕ, ◌≡◌, refl, length, drop, Ok}
use mathlib.Core.List.{List, [], ◌∷◌, ◌++◌, map, flatten}
use Rattle.board.specs.Items.{eeprom_at, eepr_map_at, brd_info_at}
use Rattle.board.specs.Records.{map_record_at}
use Rattle.board_fields.specs.Hash.{bad_hash, bad_hash_of, hash_size}
use Rattle.board_fields.specs.Heads.{bad_map_head, bad_board_head, bad_prom_sig_head}
use Rattle.board_fields.specs.Inside.{bad_inside}
use Rattle.board_fields.specs.Map.{bad_map, bad_map_field, bad_board_type}
use Rattle.board_fields.specs.Reserved.{reserved_used}
use Rattle.board_layout.specs.Layout.{shape_at, end_at, round16, next, map_at, board_at, later_at, records}
use Rattle.board_layout.specs.Shapes.{listed_shape, shape_of}
use Rattle.board_layout.specs.declared.Header.TheVariants.{Short, Long}
use Rattle.board_records.specs.Records.{bad_map_record, repeated_label}
use Rattle.board_rules.specs.Examples as example
use Rattle.board_rules.specs.Judged.{judged}
use Rattle.board_rules.specs.Rules.{rule20, rule21, rule22, rule23, rule24, rule25, rule26, rule27, rule28, rule29, rule30, rule31, rule32, rule33, rule34, misplaced, gap_used, expected, out_of_order, prom_sig_at, covered, check_over}
use Rattle.board_writer.specs.ExampleParts.{blank, map_with, board13, top, behind, given, record13, parts13, short13, image13, image_short, parts2, image2, image_logo, image_signed}
use Rattle.board_writer.specs.Image.{zeros, laid_record, laid_records, body, laid, crc_length, check, image}
use Rattle.board_writer.specs.Parts.{Parts, parts}
use Rattle.board_writer.specs.PartsOf.{records_of, parts_of}
use Rattle.board_writer.specs.Written.{reviewed, checked, written}
use Rattle.chain.specs.Chain.{visit, chain}
use Rattle.chain.specs.Fill.{tab}
use Rattle.chain.specs.First.{first}
use Rattle.crc.specs.Crc32.{crc32, shift, shifts, step32}
use Rattle.kinds.specs.Kinds.{all, full}
use Rattle.octets.specs.Bytes.{spelled, le16, le32, le64}
use Rattle.octets.specs.Label.{is_text, is_label_text, text_end, bad_label}
use Rattle.octets.specs.Runs.{nonzero, difference, same_run}
use Rattle.verdict.specs.Said.{Said, says, refused, write_said}
use Rattle.verdict.specs.Answers.{WriteAnswer}

-- ---- tables of calls
-- what is to be written, and the length of the lent buffer; what is said, and the bytes at the buffer's front that then differ
record Call : Type 0 where
  takes : Parts
  room : ℕ
  told : Said ℕ
  front : List ℕ

abbrev call : Parts → ℕ → Said ℕ → List ℕ → Call
call takes room told front = record { takes = takes; room = room; told = told; front = front }

-- what the writer says of it, and the buffer after it
abbrev seen : WriteAnswer × List ℕ → Said ℕ × List ℕ
seen w = (write_said w.0, w.1)

abbrev outcome : Call → Said ℕ × List ℕ
outcome c = seen (written c.takes (blank c.room))

abbrev foretold : Call → Said ℕ × List ℕ
foretold c = (c.told, c.front ++ drop (length c.front) (blank c.room))

-- what comes before the reader
abbrev early : List Call
early =
    -- 46: sixteen and eighteen bytes of records; before 40 and before 41
    call (given (zeros 16) []) 0xE0 (refused 46 0) []
    ∷ call (given (zeros 18) []) 0 (refused 46 0) []
    ∷ call (given (zeros 16) (zeros 65536)) 0 (refused 46 0) []
    -- 40 at 65,537 bytes, before 41, and not at 65,536
    ∷ call (given record13 (zeros 65313)) 0 (refused 40 0) []
    ∷ call (given record13 (zeros 65312)) 0 (refused 41 0) []
    -- sixteen bytes more fit behind the short header
    ∷ call (behind Short record13 (zeros 65329)) 0 (refused 40 0) []
    ∷ call (behind Short record13 (zeros 65328)) 0 (refused 41 0) []
    -- 41: a byte too short; said before what the reader says
    ∷ call parts13 0xDF (refused 41 0) []
    ∷ call short13 0xCF (refused 41 0) []
    ∷ call (given [] []) 0 (refused 41 0) []
    ∷ []

early-hold : map outcome early ≡ map foretold early
unfolding written checked
early-hold = refl

-- what is written, and what the reader or 45 says of it, at places in the image; `written13` below is case 13, with two bytes of the buffer that stay
abbrev calls : List Call
calls =
    -- two records, with Offsets 0 and BlkLength
    call parts2 0x100 (says 0x100) image2
    -- no record: 26 at the map, behind each header
    ∷ call (given [] []) 0xE0 (refused 26 0x30) []
    ∷ call (behind Short [] []) 0xE0 (refused 26 0x20) []
    -- PartSize of two records where one is given: 30 at the field. An address over 7Fh
    ∷ call (parts Long 4 (map_with 8192) record13 board13 []) 0xE0 (refused 30 0x56) []
    ∷ call (given (top 0x31 0x80) []) 0xE0 (refused 30 0x78) []
    -- two records of one label: 34 at the second
    ∷ call (parts Long 4 (map_with 8192) (top 0x31 0x50 ++ top 0x31 0x51) board13 []) 0x100 (refused 34 0x80) []
    -- further bytes: zeros are 23 where a structure is due; a `$Logo$` is written
    ∷ call (given record13 (zeros 16)) 0xF0 (refused 23 0xE0) []
    ∷ call (given record13 (example.logo 0x20 0)) 0x100 (says 0x100) image_logo
    -- a good `$PromSig` is 45; one of another hash size is 29 at HashType
    ∷ call (given record13 (example.prom_sig 1)) 0x110 (refused 45 0xE0) []
    ∷ call (given record13 (example.prom_sig 2)) 0x110 (refused 29 0xF0) []
    ∷ []

calls-hold : map outcome calls ≡ map foretold calls
unfolding written checked reviewed image laid body laid_records laid_record crc_length check spelled tab flatten covered check_over prom_sig_at first chain visit next round16 le32 le64 crc32 shift shifts step32 judged rule20 rule21 rule22 rule23 rule24 rule25 rule26 rule27 rule28 rule29 rule30 rule31 rule32 rule33 rule34 misplaced gap_used expected out_of_order end_at map_at board_at later_at shape_at shape_of listed_shape records bad_map_head bad_board_head bad_prom_sig_head bad_hash bad_hash_of hash_size bad_map bad_map_field bad_map_record repeated_label bad_board_type bad_inside reserved_used bad_label text_end is_label_text is_text nonzero difference same_run all le16
calls-hold = refl

-- ---- case 13 with each header: what laws/Written and laws/Rebuilt claim of every image, here by computation alone; and an image with a `$PromSig`, which the
-- reader accepts
pub record Computed : Type 0 where
  pub written13 : written parts13 (blank 0xE2) ≡ (Ok 0xE0, image13 ++ blank 2)
  pub again : judged full (image13 ++ blank 2) ≡ Ok 3
  pub back : parts_of (image13 ++ blank 2) ≡ parts13
  pub accepted13 : judged full image13 ≡ Ok 3
  pub written_short : written short13 (blank 0xD2) ≡ (Ok 0xD0, image_short ++ blank 2)
  pub back_short : parts_of (image_short ++ blank 2) ≡ short13
  pub accepted_short : judged full image_short ≡ Ok 3
  pub signed : judged full image_signed ≡ Ok 4

pub computed : Computed
unfolding written checked reviewed image laid body laid_records laid_record crc_length check spelled tab flatten covered check_over prom_sig_at first chain visit next round16 le32 le64 crc32 shift shifts step32 judged rule20 rule21 rule22 rule23 rule24 rule25 rule26 rule27 rule28 rule29 rule30 rule31 rule32 rule33 rule34 misplaced gap_used expected out_of_order end_at map_at board_at later_at shape_at shape_of listed_shape records bad_map_head bad_board_head bad_prom_sig_head bad_hash bad_hash_of hash_size bad_map bad_map_field bad_map_record repeated_label bad_board_type bad_inside reserved_used bad_label text_end is_label_text is_text nonzero all le16 parts_of records_of map_record_at eeprom_at eepr_map_at brd_info_at
computed =
    record {
      written13 = refl;
      again = refl;
      back = refl;
      accepted13 = refl;
      written_short = refl;
      back_short = refl;
      accepted_short = refl;
      signed = refl;
    }
