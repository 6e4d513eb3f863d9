-- Demand 3 at two readers of a board image and at two board images: its premises are met there, by a shorter list that really knows less and by images that
-- really differ; and what is answered there of the item that one does not know. Assumes nothing.
use Prim.Native.Nat.{ℕ}
use borrow.Author.Tests.{ltb-true, leb-true}
use mathlib.Core.Bool.{true, ◌&&◌}
use mathlib.Core.Logic.{◌⊎◌, inl, inr}
use mathlib.Core.List.{[], ◌∷◌}
use mathlib.Core.Path.{◌≡◌, refl}
use lib.Dec.{ltb, leb}
use Rattle.board.specs.Answers.{map_record_numbered, gpio_record_numbered}
use Rattle.board.specs.Items.{rest_at, eeprom_at, eepr_map_at, brd_info_at, item_at}
use Rattle.board.specs.Records.{map_record_at, gpio_record_at}
use Rattle.board_fields.specs.Hash.{bad_hash, bad_hash_of, hash_size}
use Rattle.board_fields.specs.Heads.{bad_map_head, bad_board_head, bad_prom_sig_head}
use Rattle.board_fields.specs.Inside.{bad_inside, bad_gpio}
use Rattle.board_fields.specs.Map.{bad_map, bad_map_field, bad_board_type}
use Rattle.board_fields.specs.Reserved.{reserved_used}
use Rattle.board_layout.specs.Layout.{shape_at, end_at, round16, next, map_at, board_at, later_at, records}
use Rattle.board_layout.specs.Shapes.{listed_shape, shape_of}
use Rattle.board_records.specs.Records.{bad_map_record, repeated_label, bad_gpio_record}
use Rattle.board_rules.specs.Judged.{judged}
use Rattle.board_rules.specs.Rules.{rule20, rule21, rule22, rule23, rule24, rule25, rule26, rule27, rule28, rule29, rule30, rule31, rule32, rule33, rule34, misplaced, gap_used, expected, out_of_order, prom_sig_at, covered, check_over}
use Rattle.chain.specs.Chain.{visit, chain}
use Rattle.chain.specs.Fill.{tab}
use Rattle.chain.specs.First.{first}
use Rattle.chain.specs.Nth.{nth}
use Rattle.chain.specs.Onward.{onward}
use Rattle.crc.specs.Crc32.{crc32, shift, shifts, step32}
use Rattle.kinds.specs.Kinds.{listed, picked, all, full, same}
use Rattle.kinds.proofs.laws.Kinds.{full-contains}
use Rattle.octets.specs.Bytes.{le16, le32, le64, byte}
use Rattle.octets.specs.Label.{is_text, is_label_text, text_end, bad_label}
use Rattle.octets.specs.Runs.{nonzero}
use Rattle.octets.specs.Rows.{number, part}
use Rattle.promises.proofs.Demand3.{demand3}
use Rattle.promises.proofs.Differ.{both, one-of-three}
use Rattle.promises.specs.Answers.{answers}
use Rattle.promises.specs.BoardInstances as instances
use Rattle.promises.specs.Demand3.{Accepted, TwoReaders}
use Rattle.promises.specs.Hidden.{hidden}
use Rattle.promises.specs.SameOutside.{SameOutside, InCheck, InsideUnknown}
use Rattle.reader.specs.Answers.{item_numbered, list_of}
use Rattle.reader.specs.Entries.{entry_at}
use Rattle.reader.specs.Walk.{moved, shown as step-shown, walked, step_numbered}
use Rattle.reader.specs.declared.Format.TheVariants.{Board}
use Rattle.kinds.specs.declared.Kind.TheVariants.{Signature}
use Rattle.reader.specs.Values as reader
use Rattle.reader.specs.Values.{FieldValues, ItemValues}
use Rattle.verdict.specs.Said.{says, refused}
use Rattle.kinds.specs.Signatures as signatures

-- ---- `$Logo$` off the list, and another logo
pub accepts-board : Accepted (answers Board full instances.one)
unfolding answers hidden item_numbered list_of entry_at onward moved step-shown walked step_numbered map_record_numbered gpio_record_numbered rest_at eeprom_at eepr_map_at brd_info_at item_at map_record_at gpio_record_at judged rule20 rule21 rule22 rule23 rule24 rule25 rule26 rule27 rule28 rule29 rule30 rule31 rule32 rule33 rule34 misplaced gap_used expected out_of_order prom_sig_at covered check_over bad_map_head bad_board_head bad_prom_sig_head bad_hash bad_hash_of hash_size bad_map bad_map_field bad_map_record repeated_label bad_gpio_record bad_board_type reserved_used bad_inside bad_gpio shape_at shape_of listed_shape end_at round16 next map_at board_at later_at records visit chain first nth tab le16 le32 le64 nonzero is_text is_label_text text_end bad_label listed picked all same crc32 shift shifts step32
accepts-board = (4, refl)

readers-board : TwoReaders Board full instances.logoless instances.one
readers-board = (demand3 Board).readers full instances.logoless (full-contains instances.logoless) instances.one accepts-board

pub logoless-one : Accepted (answers Board instances.logoless instances.one)
unfolding answers hidden item_numbered list_of entry_at onward moved step-shown walked step_numbered map_record_numbered gpio_record_numbered rest_at eeprom_at eepr_map_at brd_info_at item_at map_record_at gpio_record_at judged rule20 rule21 rule22 rule23 rule24 rule25 rule26 rule27 rule28 rule29 rule30 rule31 rule32 rule33 rule34 misplaced gap_used expected out_of_order prom_sig_at covered check_over bad_map_head bad_board_head bad_prom_sig_head bad_hash bad_hash_of hash_size bad_map bad_map_field bad_map_record repeated_label bad_gpio_record bad_board_type reserved_used bad_inside bad_gpio shape_at shape_of listed_shape end_at round16 next map_at board_at later_at records visit chain first nth tab le16 le32 le64 nonzero is_text is_label_text text_end bad_label listed picked all same crc32 shift shifts step32
logoless-one = (4, refl)

pub logoless-other : Accepted (answers Board instances.logoless instances.other)
unfolding answers hidden item_numbered list_of entry_at onward moved step-shown walked step_numbered map_record_numbered gpio_record_numbered rest_at eeprom_at eepr_map_at brd_info_at item_at map_record_at gpio_record_at judged rule20 rule21 rule22 rule23 rule24 rule25 rule26 rule27 rule28 rule29 rule30 rule31 rule32 rule33 rule34 misplaced gap_used expected out_of_order prom_sig_at covered check_over bad_map_head bad_board_head bad_prom_sig_head bad_hash bad_hash_of hash_size bad_map bad_map_field bad_map_record repeated_label bad_gpio_record bad_board_type reserved_used bad_inside bad_gpio shape_at shape_of listed_shape end_at round16 next map_at board_at later_at records visit chain first nth tab le16 le32 le64 nonzero is_text is_label_text text_end bad_label listed picked all same crc32 shift shifts step32
logoless-other = (4, refl)

-- they differ in Crc32 and inside the structure at E0h
logos : SameOutside Board instances.logoless instances.one instances.other
unfolding answers hidden item_numbered list_of entry_at onward moved step-shown walked step_numbered map_record_numbered gpio_record_numbered rest_at eeprom_at eepr_map_at brd_info_at item_at map_record_at gpio_record_at judged rule20 rule21 rule22 rule23 rule24 rule25 rule26 rule27 rule28 rule29 rule30 rule31 rule32 rule33 rule34 misplaced gap_used expected out_of_order prom_sig_at covered check_over bad_map_head bad_board_head bad_prom_sig_head bad_hash bad_hash_of hash_size bad_map bad_map_field bad_map_record repeated_label bad_gpio_record bad_board_type reserved_used bad_inside bad_gpio shape_at shape_of listed_shape end_at round16 next map_at board_at later_at records visit chain first nth tab le16 le32 le64 nonzero is_text is_label_text text_end bad_label listed picked all same crc32 shift shifts step32
logos =
    record {
      length = refl;
      bytes = λ q h. go q (one-of-three instances.one instances.other (λ x. leb 0x14 x && ltb x 0x18) (λ x. leb 0xF0 x && ltb x 0x110) 0x110 refl q h);
    }
  where
    logo : (q : ℕ) → leb 0xF0 q && ltb q 0x110 ≡ true → InsideUnknown Board instances.logoless instances.one q
    logo q e =
        let h = both (leb 0xF0 q) (ltb q 0x110) e in
        record { number = 3; place = 0xE0; stands = refl; property = refl; past = leb-true 0xF0 q h.0; before = ltb-true q 0x110 h.1 }

    go : (q : ℕ) → (byte instances.one q ≡ byte instances.other q) ⊎ ((leb 0x14 q && ltb q 0x18 ≡ true) ⊎ (leb 0xF0 q && ltb q 0x110 ≡ true))
        → (byte instances.one q ≡ byte instances.other q) ⊎ (InCheck Board instances.one q ⊎ InsideUnknown Board instances.logoless instances.one q)
    go q (inl e) = inl e
    go q (inr (inl e)) = let h = both (leb 0x14 q) (ltb q 0x18) e in inr (inl (leb-true 0x14 q h.0, ltb-true q 0x18 h.1))
    go q (inr (inr e)) = inr (inr (logo q e))

pub images-board : answers Board instances.logoless instances.one ≡ answers Board instances.logoless instances.other
images-board = (demand3 Board).images instances.logoless instances.one instances.other logoless-one logoless-other logos

-- ---- what is answered for the logo, item 3: its fields by the full list, by one without it that it is not known; and the full list refuses the other image
abbrev shown : FieldValues → ItemValues
shown fields = record { kind = Signature signatures.logo; place = 0xE0; length = 0x20; fields = fields }

record Seen : Type 0 where
  known : (answers Board full instances.one).item 3
      ≡ says (shown (reader.board-fields (
      ("VerMajor", number 1) ∷ ("VerMinor", number 0) ∷ ("Length", number 0x30) ∷ ("LogoData", part 0x100 0x10) ∷ [])))
  unknown : (answers Board instances.logoless instances.one).item 3 ≡ says (shown reader.not_known)
  step : (answers Board instances.logoless instances.one).walk 3 ≡ says (reader.item (shown reader.not_known))
  refuses : (answers Board full instances.other).judge ≡ refused 32 0xF0

seen : Seen
unfolding answers hidden item_numbered list_of entry_at onward moved step-shown walked step_numbered map_record_numbered gpio_record_numbered rest_at eeprom_at eepr_map_at brd_info_at item_at map_record_at gpio_record_at judged rule20 rule21 rule22 rule23 rule24 rule25 rule26 rule27 rule28 rule29 rule30 rule31 rule32 rule33 rule34 misplaced gap_used expected out_of_order prom_sig_at covered check_over bad_map_head bad_board_head bad_prom_sig_head bad_hash bad_hash_of hash_size bad_map bad_map_field bad_map_record repeated_label bad_gpio_record bad_board_type reserved_used bad_inside bad_gpio shape_at shape_of listed_shape end_at round16 next map_at board_at later_at records visit chain first nth tab le16 le32 le64 nonzero is_text is_label_text text_end bad_label listed picked all same crc32 shift shifts step32
seen = record { known = refl; unknown = refl; step = refl; refuses = refl }
