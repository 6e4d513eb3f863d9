-- What a reader answers, by computation: the items and the record of an image of case 13's layout, numbers past the last, and a structure that one list knows
-- and another does not. The image and its parts are those of board_rules. Assumes nothing.
use Rattle.std.specs.Prelude.{ℕ, List, [], ◌∷◌, ◌++◌, map, ◌≡◌, refl, Some, None, Ok, Err}
use Rattle.board.specs.Answers.{beyond, item_numbered, map_record_numbered, gpio_record_numbered}
use Rattle.board.specs.Items.{rest_at, eeprom_at, eepr_map_at, brd_info_at, item_at}
use Rattle.board.specs.Records.{map_record_at}
use Rattle.board.specs.declared.Fields.{Fields}
use Rattle.board.specs.AnswerTypes.{ItemAnswer}
use Rattle.board_fields.specs.Hash.{bad_hash, bad_hash_of, hash_size}
use Rattle.board_fields.specs.Heads.{bad_map_head, bad_board_head, bad_prom_sig_head}
use Rattle.board_fields.specs.Inside.{bad_inside}
use Rattle.board_fields.specs.Map.{bad_map, bad_map_field, bad_board_type}
use Rattle.board_fields.specs.Reserved.{reserved_used}
use Rattle.board_layout.specs.Layout.{shape_at, end_at, round16, next, map_at, board_at, later_at, records}
use Rattle.board_layout.specs.Shapes.{listed_shape, shape_of}
use Rattle.board_records.specs.Records.{bad_map_record, repeated_label}
use Rattle.board_rules.specs.Examples.{zeros, image, logo, short, eepr_map, brd_info}
use Rattle.board_rules.specs.Judged.{judged}
use Rattle.board_rules.specs.Rules.{rule20, rule21, rule22, rule23, rule24, rule25, rule26, rule27, rule28, rule29, rule30, rule31, rule32, rule33, rule34, misplaced, gap_used, expected, out_of_order, prom_sig_at, covered, check_over}
use Rattle.chain.specs.Chain.{visit, chain}
use Rattle.chain.specs.Fill.{tab}
use Rattle.chain.specs.First.{first}
use Rattle.chain.specs.Nth.{nth}
use Rattle.crc.specs.Crc32.{crc32, shift, shifts, step32}
use Rattle.kinds.specs.Kinds.{all, full, bare}
use Rattle.kinds.specs.Signatures as signatures
use Rattle.octets.specs.Bytes.{le16, le32, le64, run}
use Rattle.octets.specs.Label.{is_text, is_label_text, text_end, bad_label}
use Rattle.octets.specs.Runs.{nonzero}

abbrev case13 : List ℕ
case13 = image 0xE0 0x971449AD 0xE0 []

-- ---- the three items, and none of number 3
items : map (item_numbered full case13) (0 ∷ 1 ∷ 2 ∷ 3 ∷ [])
    ≡ Ok (record {
      signature = signatures.eeprom;
      place = 0;
      length = 0x20;
      item = Some (record { major = 1; minor = 0; length = 0x30; fields = Fields.Eeprom (record { structlen = 0xE0; crclength = 0xE0; version = 4 }) });
    })
    ∷ Ok (record {
      signature = signatures.eepr_map;
      place = 0x30;
      length = 0x40;
      item = Some (record {
        major = 1;
        minor = 0;
        length = 0x50;
        fields = Fields.EeprMap (record {
          partlabel = run (0x72 ∷ 0x69 ∷ 0x67 ∷ 0x24 ∷ []) 0 16;
          blklength = 4096;
          pagesize = 32;
          partsize = 4096;
          busnumber = 0;
          master = 1;
          speed = 2;
          mapdata = record { place = 0x60; length = 0x20 };
        });
      });
    })
    ∷ Ok (record {
      signature = signatures.brd_info;
      place = 0x80;
      length = 0x50;
      item = Some (record {
        major = 1;
        minor = 0;
        length = 0x60;
        fields = Fields.BrdInfo (record {
          manuname = run (0x47 ∷ 0x77 ∷ 0x65 ∷ 0x6A ∷ 0x6C ∷ 0x75 ∷ 0x73 ∷ 0x61 ∷ []) 0 16;
          brdname = run (0x72 ∷ 0x69 ∷ 0x67 ∷ []) 0 16;
          brdserial = run (0x30 ∷ 0x30 ∷ 0x30 ∷ 0x31 ∷ []) 0 16;
          boardid = 1;
          fabid = 2;
          ecid = 3;
          boardtype = 0;
        });
      });
    })
    ∷ Err beyond
    ∷ []
unfolding item_numbered map_record_numbered gpio_record_numbered item_at rest_at eeprom_at eepr_map_at brd_info_at map_record_at judged rule20 rule21 rule22 rule23 rule24 rule25 rule26 rule27 rule28 rule29 rule30 rule31 rule32 rule33 rule34 misplaced gap_used expected out_of_order prom_sig_at covered check_over bad_map_head bad_board_head bad_prom_sig_head bad_hash bad_hash_of hash_size bad_map bad_map_field bad_map_record repeated_label bad_board_type reserved_used bad_inside shape_at shape_of listed_shape end_at round16 next map_at board_at later_at records visit chain first nth tab le16 le32 le64 nonzero is_text is_label_text text_end bad_label all crc32 shift shifts step32
items = refl

-- ---- with the short header: item 0 shows Length 20h and data length 10h, item 1 lies at 20h and item 2 at 70h
abbrev short13 : List ℕ
short13 = short 0xD0 0xEB3F8F78 0xD0 ++ eepr_map 2 ++ brd_info 0x60 0

-- the place and the data length of an item that is shown
abbrev lies : ItemAnswer → ℕ × ℕ
lies (Ok v) = (v.place, v.length)
lies (Err r) = (0, 0)

short-header : item_numbered full short13 0
    ≡ Ok (record {
      signature = signatures.eeprom;
      place = 0;
      length = 0x10;
      item = Some (record { major = 1; minor = 0; length = 0x20; fields = Fields.Eeprom (record { structlen = 0xD0; crclength = 0xD0; version = 4 }) });
    })
unfolding item_numbered map_record_numbered gpio_record_numbered item_at rest_at eeprom_at eepr_map_at brd_info_at map_record_at judged rule20 rule21 rule22 rule23 rule24 rule25 rule26 rule27 rule28 rule29 rule30 rule31 rule32 rule33 rule34 misplaced gap_used expected out_of_order prom_sig_at covered check_over bad_map_head bad_board_head bad_prom_sig_head bad_hash bad_hash_of hash_size bad_map bad_map_field bad_map_record repeated_label bad_board_type reserved_used bad_inside shape_at shape_of listed_shape end_at round16 next map_at board_at later_at records visit chain first nth tab le16 le32 le64 nonzero is_text is_label_text text_end bad_label all crc32 shift shifts step32
short-header = refl

short-places : map (λ i. lies (item_numbered full short13 i)) (1 ∷ 2 ∷ []) ≡ (0x20, 0x40) ∷ (0x70, 0x50) ∷ []
unfolding item_numbered map_record_numbered gpio_record_numbered item_at rest_at eeprom_at eepr_map_at brd_info_at map_record_at judged rule20 rule21 rule22 rule23 rule24 rule25 rule26 rule27 rule28 rule29 rule30 rule31 rule32 rule33 rule34 misplaced gap_used expected out_of_order prom_sig_at covered check_over bad_map_head bad_board_head bad_prom_sig_head bad_hash bad_hash_of hash_size bad_map bad_map_field bad_map_record repeated_label bad_board_type reserved_used bad_inside shape_at shape_of listed_shape end_at round16 next map_at board_at later_at records visit chain first nth tab le16 le32 le64 nonzero is_text is_label_text text_end bad_label all crc32 shift shifts step32
short-places = refl

-- ---- the one record of the map, and none of number 1; no item holds GPIO data
records-of-map : map (map_record_numbered full case13) (0 ∷ 1 ∷ [])
    ≡ Ok (record {
      maplabel = run (0x74 ∷ 0x6F ∷ 0x70 ∷ 0x31 ∷ 0x24 ∷ []) 0 16;
      length = 0x20;
      offset = record { 0 = 0 };
      address = record { 0 = 0x50 };
    })
    ∷ Err beyond
    ∷ []
unfolding item_numbered map_record_numbered gpio_record_numbered item_at rest_at eeprom_at eepr_map_at brd_info_at map_record_at judged rule20 rule21 rule22 rule23 rule24 rule25 rule26 rule27 rule28 rule29 rule30 rule31 rule32 rule33 rule34 misplaced gap_used expected out_of_order prom_sig_at covered check_over bad_map_head bad_board_head bad_prom_sig_head bad_hash bad_hash_of hash_size bad_map bad_map_field bad_map_record repeated_label bad_board_type reserved_used bad_inside shape_at shape_of listed_shape end_at round16 next map_at board_at later_at records visit chain first nth tab le16 le32 le64 nonzero is_text is_label_text text_end bad_label all crc32 shift shifts step32
records-of-map = refl

no-gpio : gpio_record_numbered full case13 2 0 ≡ Err beyond
unfolding item_numbered map_record_numbered gpio_record_numbered item_at rest_at eeprom_at eepr_map_at brd_info_at map_record_at judged rule20 rule21 rule22 rule23 rule24 rule25 rule26 rule27 rule28 rule29 rule30 rule31 rule32 rule33 rule34 misplaced gap_used expected out_of_order prom_sig_at covered check_over bad_map_head bad_board_head bad_prom_sig_head bad_hash bad_hash_of hash_size bad_map bad_map_field bad_map_record repeated_label bad_board_type reserved_used bad_inside shape_at shape_of listed_shape end_at round16 next map_at board_at later_at records visit chain first nth tab le16 le32 le64 nonzero is_text is_label_text text_end bad_label all crc32 shift shifts step32
no-gpio = refl

-- ---- a structure at E0h that the full list knows: its data lie past the reserved bytes; the bare list shows signature, place and length
abbrev with-logo : List ℕ
with-logo = image 0x110 0 0x110 (logo 0x30 0 ++ zeros 16)

shown : item_at full with-logo 0xE0 ≡ record {
  signature = signatures.logo;
  place = 0xE0;
  length = 0x20;
  item = Some (record { major = 1; minor = 0; length = 0x30; fields = Fields.Logo (record { place = 0x100; length = 0x10 }) });
}
unfolding item_at rest_at shape_at shape_of listed_shape le16 le32 le64 tab all
shown = refl

not-shown : item_at bare with-logo 0xE0 ≡ record { signature = signatures.logo; place = 0xE0; length = 0x20; item = None }
unfolding item_at shape_at shape_of listed_shape le16 le32 le64 tab all
not-shown = refl
