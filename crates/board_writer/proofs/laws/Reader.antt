-- Field by field: what a reader with any list answers by number over the first m bytes of a buffer after a call that answers a length n, m from n to 65,536.
-- Assumes nothing.
use Rattle.std.specs.Prelude.{ℕ, ◌-◌, ◌≤◌, ◌<◌, List, ◌++◌, ◌≡◌, length, take, drop, None, Ok, Err}
use Rattle.std.proofs.Common.{sym, subst, arith}
use Rattle.board.specs.Answers.{beyond, item_numbered, map_record_numbered}
use Rattle.board.specs.declared.Fields.{Fields}
use Rattle.board_layout.specs.Layout.{header_length}
use Rattle.board_rules.specs.Judged.{judged}
use Rattle.board_rules.specs.Rules.{prom_sig_at}
use Rattle.board_rules.proofs.laws.Shorter.{shorter-accepts}
use Rattle.board_writer.specs.Image.{map_length, image_length, crc_length, check, image, board_length, map_place, board_place, further_place}
use Rattle.board_writer.specs.Parts.{Parts, Fits, record_count}
use Rattle.board_writer.specs.ReadsBack.{ReadsBack}
use Rattle.board_writer.specs.Shown.{item_shown, header_shown, map_shown, record_shown}
use Rattle.board_writer.specs.Written.{written}
use Rattle.board_writer.proofs.laws.Fields.{further-read}
use Rattle.board_writer.proofs.laws.Shown.{header-shown, map-shown, board-shown, record-shown, records-end}
use Rattle.board_writer.proofs.laws.Written.{Writable, written-exactly, written-front, written-reads-back}
use Rattle.kinds.specs.Kinds.{full}
use Rattle.kinds.specs.Signatures.{eeprom, eepr_map, brd_info}
use Rattle.kinds.specs.declared.Kinds.{Kinds}
use Rattle.kinds.proofs.laws.Kinds.{full-contains}
use Rattle.octets.specs.Bytes.{run}
use Rattle.verdict.specs.Said.{says, write_said}

-- what a reader answers over an image of these parts
pub record Answers (x : Parts) (k : Kinds) (s : List ℕ) : Type 0 where
  pub header : item_numbered k s 0 ≡ Ok (item_shown eeprom 0 (header_length x.header) (Fields.Eeprom (header_shown x)))
  pub map : item_numbered k s 1 ≡ Ok (item_shown eepr_map (map_place x) (map_length x) (Fields.EeprMap (map_shown x)))
  pub board : item_numbered k s 2 ≡ Ok (item_shown brd_info (board_place x) board_length (Fields.BrdInfo x.board))
  pub records : (i : ℕ) → i < record_count x → map_record_numbered k s i ≡ Ok (record_shown x i)
  pub past : (i : ℕ) → record_count x ≤ i → map_record_numbered k s i ≡ Err beyond
  pub further : run s (further_place x) (length x.further) ≡ x.further

-- over the image with other bytes after it, where it is accepted without a `$PromSig`
image-answers : (x : Parts) (rest : List ℕ) (k : Kinds) (count : ℕ) → Fits x → image_length x ≤ 65536
    → judged k (image x ++ rest) ≡ Ok count → prom_sig_at (image x ++ rest) ≡ None → Answers x k (image x ++ rest)
unfolding image
image-answers x rest k count fits most e none =
    let c : ℕ = check x in
    let n : ℕ = crc_length x in
    let small : image_length x < 0x1_0000_0000 = omega arith in
    record {
      header = header-shown x fits c n rest small k count e none;
      map = map-shown x fits c n rest small k count e;
      board = board-shown x fits c n rest small k count e;
      records = record-shown x fits c n rest small k count e;
      past = records-end x fits c n rest small k count e;
      further = further-read x c n rest;
    }

-- over what is written; what the full list accepts, any list accepts
pub written-answers : (x : Parts) (buffer : List ℕ) (n : ℕ) → write_said (written x buffer).0 ≡ says n → Fits x
    → (m : ℕ) → n ≤ m → m ≤ 65536 → (k : Kinds) → Answers x k (take m (written x buffer).1)
written-answers x buffer n e fits m h most k =
    let w : Writable x buffer n = (written-exactly x buffer n).0 e in
    let rest : List ℕ = take (m - n) (drop n buffer) in
    let back : ReadsBack x (image x ++ rest) = subst (ReadsBack x) (written-front x buffer n e m h) (written-reads-back x buffer n e fits m h most) in
    subst (Answers x k) (sym (written-front x buffer n e m h))
    (image-answers x rest k back.count fits (omega (arith, w.size, w.most))
    (shorter-accepts full k (full-contains k) (image x ++ rest) back.count back.accepted) back.unsigned)
