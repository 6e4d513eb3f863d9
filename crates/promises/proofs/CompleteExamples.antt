-- The claim `Complete` at a few board images: its premises can be met, and what it says is seen by computation. Assumes nothing.
use Prim.Native.Nat.{ℕ}
use mathlib.Core.Bool.{true, ◌&&◌}
use mathlib.Core.List.{List, [], ◌∷◌, ◌++◌}
use mathlib.Core.Logic.{◌⊎◌, inl, inr}
use mathlib.Core.Path.{◌≡◌, refl, ap}
use native.Mathlib.Omega.{arith}
use lib.Dec.{ltb, leb}
use lib.ListN.{replicate, take, drop}
use borrow.Author.Tests.{ltb-true, leb-true}
use Rattle.board.specs.Answers.{map_record_numbered, gpio_record_numbered}
use Rattle.board.specs.Items.{rest_at, eeprom_at, eepr_map_at, brd_info_at, fpga_nfo_at, item_at}
use Rattle.board.specs.NotShown.{NotShown, check, following, VersionUnknown}
use Rattle.board.specs.Records.{map_record_at, gpio_record_at}
use Rattle.board_fields.specs.Hash.{bad_hash, bad_hash_of, hash_size}
use Rattle.board_fields.specs.Heads.{bad_map_head, bad_board_head, bad_prom_sig_head}
use Rattle.board_fields.specs.Inside.{bad_inside, bad_fpga, bad_gpio}
use Rattle.board_fields.specs.Map.{bad_map, bad_map_field, bad_board_type}
use Rattle.board_fields.specs.Reserved.{reserved_used}
use Rattle.board_layout.specs.Layout.{shape_at, end_at, round16, next, map_at, board_at, later_at, records}
use Rattle.board_layout.specs.Shapes.{listed_shape, shape_of, HasRecords}
use Rattle.board_layout.specs.declared.Records.{Records}
use Rattle.board_layout.specs.declared.Records.TheVariants.{Map, Gpio}
use Rattle.board_records.specs.Records.{bad_map_record, repeated_label, bad_gpio_record}
use Rattle.board_rules.specs.Examples.{zeros, four, head, eepr_map, brd_info, image, logo}
use Rattle.board_rules.specs.Judged.{judged}
use Rattle.board_rules.specs.Rules.{rule20, rule21, rule22, rule23, rule24, rule25, rule26, rule27, rule28, rule29, rule30, rule31, rule32, rule33, rule34, misplaced, gap_used, expected, out_of_order, prom_sig_at, covered, check_over}
use Rattle.chain.specs.Chain.{visit, chain}
use Rattle.chain.specs.Fill.{tab}
use Rattle.chain.specs.First.{first}
use Rattle.chain.specs.Nth.{nth}
use Rattle.chain.specs.Onward.{onward}
use Rattle.crc.specs.Crc32.{crc32, shift, shifts, step32}
use Rattle.kinds.specs.Kinds.{listed, picked, all, full, same}
use Rattle.kinds.specs.Signatures as signatures
use Rattle.kinds.specs.declared.Kind.TheVariants.{Signature}
use Rattle.octets.specs.Bytes.{le16, le32, le64, byte, Octets}
use Rattle.octets.specs.Label.{is_text, is_label_text, text_end, bad_label}
use Rattle.octets.specs.Rows.{number, bytes, part}
use Rattle.octets.specs.Runs.{nonzero}
use Rattle.promises.proofs.BoardExamples.{accepts-board, logoless-one, logoless-other, images-board}
use Rattle.promises.proofs.Complete.{complete}
use Rattle.promises.proofs.Differ.{both, one-of-three, octets-tested}
use Rattle.promises.specs.Answers.{answers}
use Rattle.promises.specs.BoardInstances as instances
use Rattle.promises.specs.Complete.{AgreeBut}
use Rattle.promises.specs.Demand3.{Accepted}
use Rattle.promises.specs.Hidden.{hidden}
use Rattle.reader.specs.Answers.{item_numbered, list_of}
use Rattle.reader.specs.Entries.{entry_at}
use Rattle.reader.specs.Values as reader
use Rattle.reader.specs.Values.{ItemValues}
use Rattle.reader.specs.Walk.{moved, shown, walked, step_numbered}
use Rattle.reader.specs.declared.Format.TheVariants.{Board}
use Rattle.verdict.specs.Said.{says}

-- ---- told: two images that a reader without `$Logo$` answers alike agree on all but Crc32, and the logo's data and versions
one-octets : Octets instances.one
unfolding first visit chain
one-octets = octets-tested instances.one refl

other-octets : Octets instances.other
unfolding first visit chain
other-octets = octets-tested instances.other refl

logos-told : AgreeBut Board (λ q. NotShown instances.logoless instances.one q ⊎ VersionUnknown instances.logoless instances.one q) instances.one instances.other
logos-told =
    (complete Board).told instances.logoless instances.one instances.other one-octets other-octets logoless-one logoless-other
    (λ i. ap (λ x. x.item i) images-board)
    (λ n. ap (λ x. x.further.map_record n) images-board, λ i n. ap (λ x. x.further.gpio_record i n) images-board)

-- ---- alike: two logos that differ in their data are answered alike by the full list, which knows them
abbrev blue : List ℕ
blue = image 0x110 0x339A9F5D 0x110 (logo 0x30 0 ++ replicate 16 0x42)

accepts-blue : Accepted (answers Board full blue)
unfolding answers hidden item_numbered list_of entry_at onward moved shown walked step_numbered map_record_numbered gpio_record_numbered rest_at eeprom_at eepr_map_at brd_info_at item_at map_record_at gpio_record_at judged rule20 rule21 rule22 rule23 rule24 rule25 rule26 rule27 rule28 rule29 rule30 rule31 rule32 rule33 rule34 misplaced gap_used expected out_of_order prom_sig_at covered check_over bad_map_head bad_board_head bad_prom_sig_head bad_hash bad_hash_of hash_size bad_map bad_map_field bad_map_record repeated_label bad_gpio_record bad_board_type reserved_used bad_inside bad_gpio shape_at shape_of listed_shape end_at round16 next map_at board_at later_at records visit chain first nth tab le16 le32 le64 nonzero is_text is_label_text text_end bad_label listed picked all same crc32 shift shifts step32
accepts-blue = (4, refl)

blue-logo : AgreeBut Board (NotShown full instances.one) instances.one blue
unfolding answers hidden item_numbered list_of entry_at onward moved shown walked step_numbered map_record_numbered gpio_record_numbered rest_at eeprom_at eepr_map_at brd_info_at item_at map_record_at gpio_record_at judged rule20 rule21 rule22 rule23 rule24 rule25 rule26 rule27 rule28 rule29 rule30 rule31 rule32 rule33 rule34 misplaced gap_used expected out_of_order prom_sig_at covered check_over bad_map_head bad_board_head bad_prom_sig_head bad_hash bad_hash_of hash_size bad_map bad_map_field bad_map_record repeated_label bad_gpio_record bad_board_type reserved_used bad_inside bad_gpio shape_at shape_of listed_shape end_at round16 next map_at board_at later_at records visit chain first nth tab le16 le32 le64 nonzero is_text is_label_text text_end bad_label listed picked all same crc32 shift shifts step32
blue-logo =
    record {
      length = refl;
      bytes = λ q h. go q (one-of-three instances.one blue (λ x. leb 0x14 x && ltb x 0x18) (λ x. leb 0x100 x && ltb x 0x110) 0x110 refl q h);
    }
  where
    none : (which : Records) → HasRecords which (shape_at instances.one 0xE0) → ⊥
    none Map e = let z : ◌≡◌ {A = ℕ} 0 1 = cc in omega arith
    none Gpio e = let z : ◌≡◌ {A = ℕ} 0 1 = cc in omega arith

    go : (q : ℕ) → (byte instances.one q ≡ byte blue q) ⊎ ((leb 0x14 q && ltb q 0x18 ≡ true) ⊎ (leb 0x100 q && ltb q 0x110 ≡ true))
        → (byte instances.one q ≡ byte blue q) ⊎ NotShown full instances.one q
    go q (inl e) = inl e
    go q (inr (inl e)) = let h = both (leb 0x14 q) (ltb q 0x18) e in inr (check (leb-true 0x14 q h.0, ltb-true q 0x18 h.1))
    go q (inr (inr e)) =
        let h = both (leb 0x100 q) (ltb q 0x110) e in
        inr (following (record {
          number = 3;
          place = 0xE0;
          stands = refl;
          property = (refl, none);
          past = leb-true 0x100 q h.0;
          before = ltb-true q 0x110 h.1;
        }))

logos-alike : answers Board full instances.one ≡ answers Board full blue
logos-alike = (complete Board).alike full instances.one blue accepts-board accepts-blue blue-logo

-- ---- and a byte that is shown makes a difference, by computation alone: FuncNum 3 and 4
abbrev fpga : ℕ → ℕ → List ℕ
fpga function crc =
    image 0x100 crc 0x100 (head (0x24 ∷ 0x46 ∷ 0x50 ∷ 0x47 ∷ 0x41 ∷ 0x6E ∷ 0x66 ∷ 0x6F ∷ []) 0x20 ++ (1 ∷ 2 ∷ function ∷ zeros 13))

abbrev fpga_shown : ℕ → ItemValues
fpga_shown function =
    record {
      kind = Signature signatures.fpga_nfo;
      place = 0xE0;
      length = 0x10;
      fields = reader.board-fields
          (("VerMajor", number 1)
          ∷ ("VerMinor", number 0)
          ∷ ("Length", number 0x20)
          ∷ ("DataType", number 1)
          ∷ ("DevNum", number 2)
          ∷ ("FuncNum", number function)
          ∷ ("FpgaData", part 0x100 0)
          ∷ []);
    }

record Told : Type 0 where
  three : (answers Board full (fpga 3 0xCCB86EEC)).item 3 ≡ says (fpga_shown 3)
  four : (answers Board full (fpga 4 0xA975C42C)).item 3 ≡ says (fpga_shown 4)

told : Told
unfolding answers hidden item_numbered list_of entry_at onward moved shown walked step_numbered map_record_numbered gpio_record_numbered rest_at eeprom_at eepr_map_at brd_info_at fpga_nfo_at item_at map_record_at gpio_record_at judged rule20 rule21 rule22 rule23 rule24 rule25 rule26 rule27 rule28 rule29 rule30 rule31 rule32 rule33 rule34 misplaced gap_used expected out_of_order prom_sig_at covered check_over bad_map_head bad_board_head bad_prom_sig_head bad_hash bad_hash_of hash_size bad_map bad_map_field bad_map_record repeated_label bad_gpio_record bad_board_type reserved_used bad_inside bad_fpga bad_gpio shape_at shape_of listed_shape end_at round16 next map_at board_at later_at records visit chain first nth tab le16 le32 le64 nonzero is_text is_label_text text_end bad_label listed picked all same crc32 shift shifts step32
told = record { three = refl; four = refl }

-- ---- and the bytes behind the short header are the map's, also where the header's VerMinor is above 0: maps of VerMinor 0 and 1 are shown as such
abbrev behind_short : ℕ → ℕ → List ℕ
behind_short minor crc =
    (0x24 ∷ 0x45 ∷ 0x65 ∷ 0x70 ∷ 0x72 ∷ 0x6F ∷ 0x6D ∷ 0x24 ∷ 1 ∷ 0 ∷ 1 ∷ 0 ∷ []) ++ four 0x20 ++ four 0xD0 ++ four crc ++ four 0xD0 ++ four 4
    ++ take 10 (eepr_map 2) ++ (minor ∷ drop 11 (eepr_map 2)) ++ brd_info 0x60 0

abbrev map_with : ℕ → ItemValues
map_with minor =
    record {
      kind = Signature signatures.eepr_map;
      place = 0x20;
      length = 0x40;
      fields = reader.board-fields
          (("VerMajor", number 1)
          ∷ ("VerMinor", number minor)
          ∷ ("Length", number 0x50)
          ∷ ("PartLabel", bytes (0x72 ∷ 0x69 ∷ 0x67 ∷ 0x24 ∷ zeros 12))
          ∷ ("BlkLength", number 4096)
          ∷ ("PageSize", number 32)
          ∷ ("PartSize", number 4096)
          ∷ ("BusNumber", number 0)
          ∷ ("Master", number 1)
          ∷ ("Speed", number 2)
          ∷ ("MapData", part 0x50 0x20)
          ∷ []);
    }

behind-short : ((answers Board full (behind_short 0 0x653861A2)).item 1 ≡ says (map_with 0)) × ((answers Board full (behind_short 1 0x4A4605BB)).item 1 ≡ says (map_with 1))
unfolding answers hidden item_numbered list_of entry_at onward moved shown walked step_numbered map_record_numbered gpio_record_numbered rest_at eeprom_at eepr_map_at brd_info_at fpga_nfo_at item_at map_record_at gpio_record_at judged rule20 rule21 rule22 rule23 rule24 rule25 rule26 rule27 rule28 rule29 rule30 rule31 rule32 rule33 rule34 misplaced gap_used expected out_of_order prom_sig_at covered check_over bad_map_head bad_board_head bad_prom_sig_head bad_hash bad_hash_of hash_size bad_map bad_map_field bad_map_record repeated_label bad_gpio_record bad_board_type reserved_used bad_inside bad_fpga bad_gpio shape_at shape_of listed_shape end_at round16 next map_at board_at later_at records visit chain first nth tab le16 le32 le64 nonzero is_text is_label_text text_end bad_label listed picked all same crc32 shift shifts step32
behind-short = (refl, refl)
