-- Reading back at case 4 and at case 13, with each header: the premises of both claims are met there, and what they say of these images, written out. Assumes nothing.
use Rattle.std.specs.Prelude.{Some}
use Prim.Native.Nat.{ℕ, ◌<◌}
use mathlib.Core.List.{List, [], ◌∷◌, ◌++◌, map, flatten}
use mathlib.Core.Path.{◌≡◌, refl, ap}
use native.Mathlib.Omega.{arith}
use lib.ListN.{take}
use Rattle.board.specs.Values.{counted}
use Rattle.board.specs.declared.Fields.{Fields}
use Rattle.board_layout.specs.declared.Header.TheVariants.{Short, Long}
use Rattle.board_writer.specs.ExampleParts as board-example
use Rattle.board_writer.specs.Image.{zeros}
use Rattle.board_writer.specs.Written as board-writer
use Rattle.board_writer.proofs.laws.Case13.{fits13, told13, told_short}
use Rattle.chain.specs.Chain.{visit, chain}
use Rattle.chain.specs.Fill.{tab}
use Rattle.chain.specs.First.{first}
use Rattle.chain.specs.Nth.{nth}
use Rattle.crc.specs.Crc8.{crc8, reduce, bring, bits_of, bits_of_all}
use Rattle.kinds.specs.Kinds.{full, bare, all, listed, picked, same}
use Rattle.kinds.specs.Signatures.{eeprom}
use Rattle.kinds.specs.declared.Kind.TheVariants.{Tag}
use Rattle.kinds.specs.declared.Kinds.{Kinds}
use Rattle.octets.specs.Label.{is_text}
use Rattle.octets.specs.Rows.{Field, bytes, text, undecodable}
use Rattle.promises.proofs.Demand2.{demand2}
use Rattle.promises.specs.Answers.{answers}
use Rattle.promises.specs.Asked.{without}
use Rattle.promises.specs.Rows.{labelled}
use Rattle.promises.specs.ReadBack.{given_count, given_item, rows_given, OnlySerial, TinyShows, structure_given, BoardShows}
use Rattle.reader.specs.Answers.{item_numbered}
use Rattle.reader.specs.Values.{ItemValues}
use Rattle.reader.specs.declared.Format.TheVariants.{Tiny, Board}
use Rattle.tiny.specs.Items.{identity_at, pool_shown, item_at}
use Rattle.tiny.specs.Major.{major_text}
use Rattle.tiny_layout.specs.Layout.{head_size, data_length, next}
use Rattle.tiny_layout.specs.Pool.{pool}
use Rattle.tiny_layout.specs.Strings.{split, texts, string_end, reference}
use Rattle.tiny_layout.specs.Tags.{shape_of}
use Rattle.tiny_rules.specs.Judged.{judged}
use Rattle.tiny_rules.specs.Rules.{rule1, rule2, rule3, rule4, rule5, rule6, rule7, rule8, rule9, rule10, rule11, bad_index, is_major, bad_revision}
use Rattle.tiny_writer.specs.Examples.{blank, parts4, computed}
use Rattle.tiny_writer.specs.Image.{Parts, parts, body, image}
use Rattle.tiny_writer.specs.Run.{run_size}
use Rattle.tiny_writer.specs.Written as tiny-writer
use Rattle.verdict.specs.Said.{Said, says, refused, write_said}
use Rattle.verdict.specs.Answers.{WriteAnswer}

-- ---- by computation alone: no law is used. A definition under which this is false is ruled out by the claim itself, and not only by how it is proved
-- a serial, an identity that refers to strings 0 and 1, a tag that is on no list; and the pool "top1", "xy"
abbrev ident : Parts
ident =
    parts (0x10 ∷ 0x01 ∷ 0x00 ∷ 0x61 ∷ 0x06 ∷ 0x00 ∷ 0x01 ∷ 0x63 ∷ 0x05 ∷ 0x41 ∷ 0x42 ∷ 0x02 ∷ 0x01 ∷ 0x07 ∷ [])
    (Some (0x74 ∷ 0x6F ∷ 0x70 ∷ 0xB1 ∷ 0x78 ∷ 0xF9 ∷ []))

-- the fields that are shown of an item
abbrev shown_fields : Said ItemValues → List Field
shown_fields (says v) = labelled v.fields
shown_fields (refused n p) = []

-- items 0 to 2 of the image show the rows over the bytes given
abbrev AsGiven : Kinds → Type 0
AsGiven k = map (λ i. shown_fields ((answers Tiny k (image ident)).item i)) (0 ∷ 1 ∷ 2 ∷ []) ≡ map (λ i. rows_given k ident (given_item ident i)) (0 ∷ 1 ∷ 2 ∷ [])

as-given : AsGiven full × AsGiven (without (Tag 0x01)) × AsGiven (without (Tag 0x61))
unfolding image body run_size answers item_numbered judged rule1 rule2 rule3 rule4 rule5 rule6 rule7 rule8 rule9 rule10 rule11 bad_index is_major bad_revision item_at identity_at pool_shown major_text first visit chain nth next head_size data_length pool split texts string_end reference shape_of tab flatten crc8 reduce bring bits_of bits_of_all listed picked all same is_text
as-given = (refl, refl, refl)

-- ---- case 4: a serial that refers to string 0, and the pool "top1"
abbrev written4 : List ℕ
written4 = (tiny-writer.written parts4 (blank 14)).1

abbrev top1 : List ℕ
top1 = 0x74 ∷ 0x6F ∷ 0x70 ∷ 0x31 ∷ []

told4 : write_said (tiny-writer.written parts4 (blank 14)).0 ≡ says 12
told4 = ap (λ (w : WriteAnswer × List ℕ). write_said w.0) computed.written4

shows4 : TinyShows parts4 full (answers Tiny full written4)
shows4 = demand2.tiny_shows parts4 (blank 14) 12 told4 full

hides4 : TinyShows parts4 (without (Tag 0x01)) (answers Tiny (without (Tag 0x01)) written4)
hides4 = demand2.tiny_shows parts4 (blank 14) 12 told4 (without (Tag 0x01))

-- item 0 shows that string; without 01 on the list it is undecodable
first4 : 0 < given_count parts4
unfolding run_size chain visit tab
first4 = omega arith

serial4 : labelled (shows4.item 0 first4).value.fields ≡ ("serial", text top1) ∷ []
unfolding run_size chain visit tab listed all split shape_of
serial4 = (shows4.item 0 first4).fields

hidden4 : labelled (hides4.item 0 first4).value.fields ≡ ("serial", undecodable) ∷ []
unfolding run_size chain visit tab listed picked same split shape_of
hidden4 = (hides4.item 0 first4).fields

-- the name is found, at the front of the lent buffer
only4 : OnlySerial parts4 0
unfolding run_size chain visit tab
only4 = record { below = omega arith; serial = refl; alone = λ j h t. omega arith }

name4 : (answers Tiny full written4).further.name (1 ∷ 2 ∷ 3 ∷ 4 ∷ 5 ∷ []) ≡ (says 4, top1 ++ (5 ∷ []))
unfolding run_size chain visit tab listed all split
name4 = shows4.name refl refl 0 only4 (1 ∷ 2 ∷ 3 ∷ 4 ∷ 5 ∷ []) (omega arith)

-- string 0 and no other, items 0 and 1 and no other
strings4 : ((answers Tiny full written4).further.string 1 ≡ refused 42 0) × ((answers Tiny full written4).item 2 ≡ refused 42 0)
unfolding run_size chain visit tab listed all split
strings4 = (shows4.no_string refl 1 (omega arith), shows4.end 2 (omega arith))

-- ---- case 13, also to a reader with the bare list: one record, "top1" at address 50h
abbrev written13 : List ℕ
written13 = take 0xE0 (board-writer.written board-example.parts13 (board-example.blank 0xE2)).1

shows13 : BoardShows board-example.parts13 (answers Board bare written13)
shows13 = demand2.board_shows board-example.parts13 (fits13 Long) (board-example.blank 0xE2) 0xE0 told13 0xE0 (omega arith) (omega arith) bare

record13 : (answers Board bare written13).further.map_record 0
    ≡ says (("MapLabel", bytes (top1 ++ (0x24 ∷ zeros 11))) ∷ counted "Length" 0x20 ∷ counted "Offset" 0 ∷ counted "Address" 0x50 ∷ [])
unfolding tab
record13 = shows13.map_record 0 (omega arith)

past13 : (answers Board bare written13).further.map_record 1 ≡ refused 42 0
past13 = shows13.no_map_record 1 (omega arith)

-- ---- the same with the short header: item 0 shows its Length, and the map lies behind it
abbrev written_short : List ℕ
written_short = take 0xD0 (board-writer.written board-example.short13 (board-example.blank 0xD2)).1

shows_short : BoardShows board-example.short13 (answers Board bare written_short)
shows_short = demand2.board_shows board-example.short13 (fits13 Short) (board-example.blank 0xD2) 0xD0 told_short 0xD0 (omega arith) (omega arith) bare

header_short : (answers Board bare written_short).item 0
    ≡ says (structure_given eeprom 0 0x20 (Fields.Eeprom (record { structlen = 0xD0; crclength = 0xD0; version = 4 })))
header_short = shows_short.header

record_short : (answers Board bare written_short).further.map_record 0
    ≡ says (("MapLabel", bytes (top1 ++ (0x24 ∷ zeros 11))) ∷ counted "Length" 0x20 ∷ counted "Offset" 0 ∷ counted "Address" 0x50 ∷ [])
unfolding tab
record_short = shows_short.map_record 0 (omega arith)
