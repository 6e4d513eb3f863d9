-- The theorems at case 13, with the long header and with the short one: their premises are met there. Assumes nothing.
use Rattle.std.specs.Prelude.{ℕ, ◌<◌, List, [], ◌++◌, ◌≡◌, refl, ltb, take, None}
use Rattle.std.proofs.Common.{ap, arith}
use Rattle.board_layout.specs.Layout.{round16, next, map_at, board_at}
use Rattle.board_layout.specs.declared.Header.{Header}
use Rattle.board_layout.specs.declared.Header.TheVariants.{Short, Long}
use Rattle.board_rules.specs.Rules.{prom_sig_at, rule27}
use Rattle.board_writer.specs.ExampleParts.{blank, behind, record13, parts13, short13, image13, image_short}
use Rattle.board_writer.specs.Examples.{computed}
use Rattle.board_writer.specs.Image.{image}
use Rattle.board_writer.specs.Parts.{Fits, OfBytes}
use Rattle.board_writer.specs.PartsOf.{parts_of, Rebuildable}
use Rattle.board_writer.specs.ReadsBack.{ReadsBack}
use Rattle.board_writer.specs.Written.{written}
use Rattle.board_writer.proofs.laws.CheckFields.{check-fields-hold}
use Rattle.board_writer.proofs.laws.Octets.{body-octets}
use Rattle.board_writer.proofs.laws.Reader.{Answers, written-answers}
use Rattle.board_writer.proofs.laws.Rebuilt.{rebuilt}
use Rattle.board_writer.proofs.laws.Written.{written-reads-back, buffer-reads-back}
use Rattle.chain.specs.Chain.{visit, chain}
use Rattle.chain.specs.Fill.{tab}
use Rattle.chain.specs.First.{first, when}
use Rattle.chain.proofs.laws.All.{all-map}
use Rattle.chain.proofs.laws.Checks.{kept-under}
use Rattle.chain.proofs.laws.First.{first-all}
use Rattle.kinds.specs.Kinds.{bare}
use Rattle.octets.specs.Bytes.{Octets, le16, le32, le64}
use Rattle.octets.proofs.laws.Bytes.{all-octets}
use Rattle.verdict.specs.Said.{says, write_said}
use Rattle.verdict.specs.Answers.{WriteAnswer}

-- ---- what is written reads back
-- each number fits its field
pub fits13 : (h : Header) → Fits (behind h record13 [])
fits13 h =
    record {
      version = omega arith;
      blk_length = omega arith;
      page_size = omega arith;
      part_size = omega arith;
      board_id = omega arith;
      fab_id = omega arith;
      ec_id = omega arith;
      part_label = refl;
      manu_name = refl;
      brd_name = refl;
      brd_serial = refl;
    }

-- a length is answered
pub told13 : write_said (written parts13 (blank 0xE2)).0 ≡ says 0xE0
told13 = ap (λ (w : WriteAnswer × List ℕ). write_said w.0) computed.written13

-- the image alone, and the whole buffer
reads-back13 : ReadsBack parts13 (take 0xE0 (written parts13 (blank 0xE2)).1)
reads-back13 = written-reads-back parts13 (blank 0xE2) 0xE0 told13 (fits13 Long) 0xE0 (omega arith) (omega arith)

whole13 : ReadsBack parts13 (written parts13 (blank 0xE2)).1
whole13 = buffer-reads-back parts13 (blank 0xE2) 0xE0 told13 (fits13 Long) (omega arith)

-- with the short header
pub told_short : write_said (written short13 (blank 0xD2)).0 ≡ says 0xD0
told_short = ap (λ (w : WriteAnswer × List ℕ). write_said w.0) computed.written_short

reads-back-short : ReadsBack short13 (take 0xD0 (written short13 (blank 0xD2)).1)
reads-back-short = written-reads-back short13 (blank 0xD2) 0xD0 told_short (fits13 Short) 0xD0 (omega arith) (omega arith)

-- field by field, also to a reader with the bare list
answers13 : Answers parts13 bare (take 0xE0 (written parts13 (blank 0xE2)).1)
answers13 = written-answers parts13 (blank 0xE2) 0xE0 told13 (fits13 Long) 0xE0 (omega arith) (omega arith) bare

-- ---- what is accepted is rebuilt
rebuildable13 : Rebuildable image13 × Rebuildable image_short
unfolding prom_sig_at first chain visit next round16 map_at board_at tab le16 le32 le64
rebuildable13 =
    (record { unsigned = refl; header = refl; map = refl; board = refl }, record { unsigned = refl; header = refl; map = refl; board = refl })

-- a list whose elements are not over 255
small : (l : List ℕ) → first (λ b. when (ltb 255 b) b) l ≡ None → Octets l
small l e =
    all-octets l
    (all-map (λ b. when (ltb 255 b) b ≡ None) (λ b. b < 256) (λ b h. omega (arith, kept-under 255 b b h)) l
    (first-all (λ b. when (ltb 255 b) b) l e))

octets13 : Octets image13 × Octets image_short
unfolding first
octets13 = (small image13 refl, small image_short refl)

-- sixteen bytes of the buffer stay
rebuilt13 : (write_said (written (parts_of image13) (blank 0xF0)).0 ≡ says 0xE0) × ((written (parts_of image13) (blank 0xF0)).1 ≡ image13 ++ blank 0x10)
unfolding le32 tab
rebuilt13 = rebuilt image13 3 computed.accepted13 rebuildable13.0 octets13.0 (blank 0xF0) (omega arith)

rebuilt-short : (write_said (written (parts_of image_short) (blank 0xF0)).0 ≡ says 0xD0)
    × ((written (parts_of image_short) (blank 0xF0)).1 ≡ image_short ++ blank 0x20)
unfolding le32 tab
rebuilt-short = rebuilt image_short 3 computed.accepted_short rebuildable13.1 octets13.1 (blank 0xF0) (omega arith)

-- ---- the check fields hold
-- each byte is one
given13 : (h : Header) → OfBytes (behind h record13 [])
unfolding first
given13 h =
    record {
      part_label = small (parts13.map.partlabel) refl;
      bus_number = omega arith;
      master = omega arith;
      speed = omega arith;
      records = small parts13.records refl;
      manu_name = small (parts13.board.manuname) refl;
      brd_name = small (parts13.board.brdname) refl;
      brd_serial = small (parts13.board.brdserial) refl;
      board_type = omega arith;
      further = small parts13.further refl;
    }

check13 : (rule27 (image parts13) ≡ None) × (rule27 (image short13) ≡ None)
check13 = (
  check-fields-hold parts13 (omega arith) (body-octets parts13 (given13 Long)),
  check-fields-hold short13 (omega arith) (body-octets short13 (given13 Short)),
)
