-- The choice by computation holds at each row of the examples, and so does what the full list says of each of their images. Assumes nothing.
use Rattle.std.specs.Prelude.{map, ◌≡◌, refl}
use Rattle.std.proofs.Common.{◌∙◌}
use Rattle.board_fields.specs.Hash.{bad_hash}
use Rattle.board_fields.specs.Heads.{bad_map_head, bad_board_head, bad_prom_sig_head}
use Rattle.board_fields.specs.Inside.{bad_inside}
use Rattle.board_fields.specs.Map.{bad_map, bad_map_field, bad_board_type}
use Rattle.board_fields.specs.Reserved.{reserved_used}
use Rattle.board_layout.specs.Layout.{shape_at, end_at, round16, next, map_at, board_at, later_at, records}
use Rattle.board_layout.specs.Shapes.{listed_shape, shape_of}
use Rattle.board_records.specs.Records.{bad_map_record, repeated_label}
use Rattle.board_rules.specs.Judged.{judged}
use Rattle.board_rules.specs.Rules.{rule20, rule21, rule22, rule23, rule24, rule25, rule26, rule27, rule28, rule29, rule30, rule31, rule32, rule33, rule34, misplaced, gap_used, expected, out_of_order, prom_sig_at, covered, check_over}
use Rattle.chain.specs.Chain.{visit, chain}
use Rattle.chain.specs.Fill.{tab}
use Rattle.chain.specs.First.{first}
use Rattle.chain.proofs.laws.All.{all-of, map-agree}
use Rattle.choice.specs.Choice.{same_ids, same_board_at, eeprom_wins, choice_of, chosen_of}
use Rattle.crc.specs.Crc32.{crc32, shift, shifts, step32}
use Rattle.kinds.specs.Kinds.{all, full}
use Rattle.octets.specs.Bytes.{le16, le32, le64}
use Rattle.octets.specs.Label.{is_text, is_label_text, text_end, bad_label}
use Rattle.octets.specs.Runs.{nonzero, difference, same_run}
use Rattle.choice.specs.Examples.{Name, older, newer, short_newer, other_serial, other_ec, longer, shorter, damaged, bytes, verdict, Row, rows, answered, from_judged}

judged-hold : (n : Name) → judged full (bytes n) ≡ verdict n
unfolding judged rule20 rule21 rule22 rule23 rule24 rule25 rule26 rule27 rule28 rule29 rule30 rule31 rule32 rule33 rule34 misplaced gap_used expected out_of_order prom_sig_at covered check_over bad_map_head bad_board_head bad_prom_sig_head bad_hash bad_map bad_map_field bad_map_record repeated_label bad_board_type reserved_used bad_inside shape_at shape_of listed_shape end_at round16 next map_at board_at later_at records visit chain first tab le16 le32 le64 nonzero difference same_run is_text is_label_text text_end bad_label all crc32 shift shifts step32
judged-hold older = refl
judged-hold newer = refl
judged-hold short_newer = refl
judged-hold other_serial = refl
judged-hold other_ec = refl
judged-hold longer = refl
judged-hold shorter = refl
judged-hold damaged = refl

from-judged : (r : Row) → answered r ≡ from_judged r
unfolding choice_of chosen_of
from-judged r = rw (judged-hold r.firmware, judged-hold r.eeprom)

from-rows : map from_judged rows ≡ map (λ (r : Row). (r.said, r.part)) rows
unfolding eeprom_wins same_board_at same_ids same_run difference board_at map_at next round16 visit chain first tab le32
from-rows = refl

rows-hold : map answered rows ≡ map (λ (r : Row). (r.said, r.part)) rows
rows-hold = map-agree answered from_judged rows (all-of (λ r. answered r ≡ from_judged r) from-judged rows) ∙ from-rows
