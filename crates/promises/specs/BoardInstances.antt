-- Demand 3 at a few board images, by computation alone: no law is used (see TinyInstances). Assumes nothing.
use Rattle.std.specs.Prelude.{ℕ, true, ◌&&◌, List, [], ◌∷◌, ◌++◌, map, ◌≡◌, refl, replicate}
use Rattle.board.specs.Answers.{map_record_numbered, gpio_record_numbered}
use Rattle.board.specs.Items.{rest_at, eeprom_at, eepr_map_at, brd_info_at, item_at}
use Rattle.board.specs.Records.{map_record_at, gpio_record_at}
use Rattle.board_fields.specs.Hash.{bad_hash, bad_hash_of, hash_size}
use Rattle.board_fields.specs.Heads.{bad_map_head, bad_board_head, bad_prom_sig_head}
use Rattle.board_fields.specs.Inside.{bad_inside, bad_gpio}
use Rattle.board_fields.specs.Map.{bad_map, bad_map_field, bad_board_type}
use Rattle.board_fields.specs.Reserved.{reserved_used}
use Rattle.board_layout.specs.Layout.{shape_at, end_at, round16, next, map_at, board_at, later_at, records}
use Rattle.board_layout.specs.Shapes.{listed_shape, shape_of}
use Rattle.board_records.specs.Records.{bad_map_record, repeated_label, bad_gpio_record}
use Rattle.board_rules.specs.Examples.{zeros, four, head, image, logo}
use Rattle.board_rules.specs.Judged.{judged}
use Rattle.board_rules.specs.Rules.{rule20, rule21, rule22, rule23, rule24, rule25, rule26, rule27, rule28, rule29, rule30, rule31, rule32, rule33, rule34, misplaced, gap_used, expected, out_of_order, prom_sig_at, covered, check_over}
use Rattle.chain.specs.Chain.{visit, chain}
use Rattle.chain.specs.Fill.{tab}
use Rattle.chain.specs.First.{first}
use Rattle.chain.specs.Nth.{nth}
use Rattle.chain.specs.Onward.{onward}
use Rattle.crc.specs.Crc32.{crc32, shift, shifts, step32}
use Rattle.kinds.specs.Kinds.{listed, picked, all, full, same}
use Rattle.kinds.specs.Signatures as signatures
use Rattle.kinds.specs.declared.Kind.TheVariants.{Signature}
use Rattle.kinds.specs.declared.Kinds.{Kinds}
use Rattle.octets.specs.Bytes.{le16, le32, le64}
use Rattle.octets.specs.Label.{is_text, is_label_text, text_end, bad_label}
use Rattle.octets.specs.Runs.{nonzero}
use Rattle.promises.specs.Answers.{Answers, answers}
use Rattle.promises.specs.Asked.{without, blank, marked}
use Rattle.promises.specs.Demand3.{as_step}
use Rattle.promises.specs.Hidden.{hidden}
use Rattle.reader.specs.Answers.{item_numbered, list_of}
use Rattle.reader.specs.Entries.{entry_at}
use Rattle.reader.specs.Values as reader
use Rattle.reader.specs.Walk.{moved, shown, walked, step_numbered}
use Rattle.reader.specs.declared.Entry.{Entry}
use Rattle.reader.specs.declared.Format.TheVariants.{Board}
use Rattle.verdict.specs.Said.{Said, says}

abbrev pub logoless : Kinds
logoless = without (Signature signatures.logo)

abbrev pinless : Kinds
pinless = without (Signature signatures.gpio_dat)

-- $GpioDat of one record: label "pin", Offset 5, AndData FFh, OrData 1, DataSize 1, DataType 0
abbrev gpio : List ℕ
gpio =
    head (0x24 ∷ 0x47 ∷ 0x70 ∷ 0x69 ∷ 0x6F ∷ 0x44 ∷ 0x61 ∷ 0x74 ∷ []) 0x50 ++ zeros 16
    ++ (0x70 ∷ 0x69 ∷ 0x6E ∷ 0x24 ∷ zeros 12) ++ four 0x30 ++ four 5 ++ four 0xFF ++ four 1 ++ (1 ∷ 0 ∷ zeros 14)

-- a logo at E0h; the same with a reserved byte of it in use, and two bytes lent past it; a logo of VerMajor 2; and GPIO data
abbrev pub one : List ℕ
one = image 0x110 0x2AC63D3A 0x110 (logo 0x30 0 ++ replicate 16 0x41)

abbrev pub other : List ℕ
other = image 0x110 0xC2409AF7 0x110 (logo 0x30 1 ++ replicate 16 0x42 ++ (7 ∷ 8 ∷ []))

abbrev later : List ℕ
later = image 0xF4 0x1917A25A 0xF4 ((0x24 ∷ 0x4C ∷ 0x6F ∷ 0x67 ∷ 0x6F ∷ 0x24 ∷ 0 ∷ 0 ∷ 2 ∷ 0 ∷ 0 ∷ 0 ∷ []) ++ four 0x14 ++ replicate 4 9)

abbrev pins : List ℕ
pins = image 0x130 0xBBC4D2 0x130 gpio

-- a list of five, and one that is too short
abbrev lists : Answers Board → List (Said ℕ × List Entry)
lists a = map a.list (replicate 5 blank ∷ replicate 1 blank ∷ [])

-- ---- "All else that it answers is as the longer answers": an item, the list, a step, and a record of GPIO data
record Hides : Type 0 where
  item : (answers Board logoless one).item 3 ≡ (hidden Board logoless (answers Board full one)).item 3
  list : lists (answers Board logoless one) ≡ lists (hidden Board logoless (answers Board full one))
  step : (answers Board logoless one).walk 3 ≡ (hidden Board logoless (answers Board full one)).walk 3
  pin : (answers Board pinless pins).further.gpio_record 3 0 ≡ (hidden Board pinless (answers Board full pins)).further.gpio_record 3 0

hides : Hides
unfolding answers hidden item_numbered list_of entry_at onward moved shown walked step_numbered map_record_numbered gpio_record_numbered rest_at eeprom_at eepr_map_at brd_info_at item_at map_record_at gpio_record_at judged rule20 rule21 rule22 rule23 rule24 rule25 rule26 rule27 rule28 rule29 rule30 rule31 rule32 rule33 rule34 misplaced gap_used expected out_of_order prom_sig_at covered check_over bad_map_head bad_board_head bad_prom_sig_head bad_hash bad_hash_of hash_size bad_map bad_map_field bad_map_record repeated_label bad_gpio_record bad_board_type reserved_used bad_inside bad_gpio shape_at shape_of listed_shape end_at round16 next map_at board_at later_at records visit chain first nth tab le16 le32 le64 nonzero is_text is_label_text text_end bad_label listed picked all same crc32 shift shifts step32
hides = record { item = refl; list = refl; step = refl; pin = refl }

record Shows : Type 0 where
  -- "not known exactly when its list lacks that kind and version"
  exactly : (marked Board full one ((answers Board full one).item 3) && marked Board full later ((answers Board full later).item 3)) ≡ true
  -- "Whatever it is asked, it answers the same for both."
  item : (answers Board logoless one).item 3 ≡ (answers Board logoless other).item 3
  list : lists (answers Board logoless one) ≡ lists (answers Board logoless other)
  -- step 3 shows item 3, and the step at the count says that none is left
  steps : map (answers Board full one).walk (3 ∷ 4 ∷ []) ≡ as_step ((answers Board full one).item 3) ∷ says reader.none_left ∷ []

shows : Shows
unfolding answers hidden item_numbered list_of entry_at onward moved shown walked step_numbered map_record_numbered gpio_record_numbered rest_at eeprom_at eepr_map_at brd_info_at item_at map_record_at gpio_record_at judged rule20 rule21 rule22 rule23 rule24 rule25 rule26 rule27 rule28 rule29 rule30 rule31 rule32 rule33 rule34 misplaced gap_used expected out_of_order prom_sig_at covered check_over bad_map_head bad_board_head bad_prom_sig_head bad_hash bad_hash_of hash_size bad_map bad_map_field bad_map_record repeated_label bad_gpio_record bad_board_type reserved_used bad_inside bad_gpio shape_at shape_of listed_shape end_at round16 next map_at board_at later_at records visit chain first nth tab le16 le32 le64 nonzero is_text is_label_text text_end bad_label listed picked all same crc32 shift shifts step32
shows = record { exactly = refl; item = refl; list = refl; steps = refl }
