-- What the writer makes of small runs, by computation: written images, each refusal of its own and the reader's, and case 4 written, read back and written again.
-- Assumes nothing.
use Rattle.std.specs.Prelude.{ℕ, Option, Some, None, ◌≡◌, refl, length, drop, replicate, Ok}
use mathlib.Core.List.{List, [], ◌∷◌, ◌++◌, map, flatten}
use Rattle.chain.specs.Chain.{visit, chain}
use Rattle.chain.specs.Fill.{tab}
use Rattle.chain.specs.First.{first}
use Rattle.chain.specs.Keep.{keep}
use Rattle.chain.specs.Number.{number_from}
use Rattle.crc.specs.Crc8.{crc8, reduce, bring, bits_of, bits_of_all}
use Rattle.kinds.specs.Kinds.{listed, all, full}
use Rattle.octets.specs.Label.{is_text}
use Rattle.tiny_layout.specs.Layout.{head_size, data_length, next}
use Rattle.tiny_layout.specs.Pool.{pool}
use Rattle.tiny_layout.specs.Strings.{split, texts}
use Rattle.tiny_layout.specs.Tags.{shape_of}
use Rattle.tiny_rules.specs.Judged.{judged}
use Rattle.tiny_rules.specs.Rules.{rule1, rule2, rule3, rule4, rule5, rule6, rule7, rule8, rule9, rule10, rule11, bad_index, bad_revision, is_major}
use Rattle.tiny_writer.specs.Image.{Parts, parts, body, image}
use Rattle.tiny_writer.specs.PartsOf.{run_of, pool_of, parts_of}
use Rattle.tiny_writer.specs.Run.{run_size, bad_item, rule46}
use Rattle.tiny_writer.specs.Written.{checked, written}
use Rattle.verdict.specs.Said.{Said, says, refused, write_said}

-- a buffer of n bytes AAh
abbrev pub blank : ℕ → List ℕ
blank n = replicate n 0xAA

-- case 4, and what it is made of
abbrev pub case4 : List ℕ
case4 = 0x56 ∷ 0x02 ∷ 0x0C ∷ 0x10 ∷ 0x00 ∷ 0x01 ∷ 0x04 ∷ 0x74 ∷ 0x6F ∷ 0x70 ∷ 0xB1 ∷ 0x57 ∷ []

abbrev run4 : List ℕ
run4 = 0x10 ∷ 0x01 ∷ 0x00 ∷ []

abbrev pool4 : List ℕ
pool4 = 0x74 ∷ 0x6F ∷ 0x70 ∷ 0xB1 ∷ []

abbrev pub parts4 : Parts
parts4 = record { run = run4; pool = Some pool4 }

-- ---- a table of calls
-- what is to be written, and the length of the lent buffer; what is said, and the bytes at the buffer's front that then differ
record Call : Type 0 where
  takes : Parts
  room : ℕ
  told : Said ℕ
  front : List ℕ

abbrev call : List ℕ → Option (List ℕ) → ℕ → Said ℕ → List ℕ → Call
call run pool room told front = record { takes = parts run pool; room = room; told = told; front = front }

-- what the writer says of it, and the buffer after it
abbrev outcome : Call → Said ℕ × List ℕ
outcome c = (write_said (written c.takes (blank c.room)).0, (written c.takes (blank c.room)).1)

abbrev expected : Call → Said ℕ × List ℕ
expected c = (c.told, c.front ++ drop (length c.front) (blank c.room))

-- an item with a long tag and n data bytes
abbrev long : ℕ → List ℕ
long n = 0x02 ∷ n ∷ replicate n 0xAA

abbrev calls : List Call
calls =
    -- case 4, into a buffer with two bytes more, which stay as they were; into one of its length; and 41, a byte too short
    call run4 (Some pool4) 14 (says 12) case4
    ∷ call run4 (Some pool4) 12 (says 12) case4
    ∷ call run4 (Some pool4) 11 (refused 41 0) []
    -- case 2: no item and no pool. An empty pool is a pool
    ∷ call [] None 4 (says 4) (0x56 ∷ 0x02 ∷ 0x04 ∷ 0x6F ∷ [])
    ∷ call [] (Some []) 6 (says 6) (0x56 ∷ 0x02 ∷ 0x06 ∷ 0x01 ∷ 0x00 ∷ 0xF5 ∷ [])
    -- 46 at item 1: the length byte is not the high four bits of 60. At item 0: tag 01. At item 1: cut short in its data, and after its tag
    ∷ call (0x10 ∷ 0x01 ∷ 0x00 ∷ 0x60 ∷ 0x05 ∷ 0x01 ∷ 0x02 ∷ 0x03 ∷ 0x04 ∷ 0x05 ∷ []) None 20 (refused 46 1) []
    ∷ call (0x01 ∷ 0x00 ∷ []) None 20 (refused 46 0) []
    ∷ call (0x11 ∷ 0x01 ∷ 0x00 ∷ 0x11 ∷ 0x01 ∷ []) None 20 (refused 46 1) []
    ∷ call (0x11 ∷ 0x01 ∷ 0x00 ∷ 0x02 ∷ []) None 20 (refused 46 1) []
    -- 40 at 256 bytes and not at 255; where the pool's data are over 255; before 41, and after 46
    ∷ call (long 249) None 0 (refused 41 0) []
    ∷ call (long 250) None 0 (refused 40 0) []
    ∷ call [] (Some (replicate 256 0xAA)) 0 (refused 40 0) []
    ∷ call (long 250 ++ (0x11 ∷ 0x00 ∷ [])) None 0 (refused 46 1) []
    -- 41 is said before what the reader says
    ∷ call (0x00 ∷ 0x00 ∷ []) None 0 (refused 41 0) []
    -- what the reader says, at places in the image: 7 at the tag, 9 at the pool's last byte, 10 at the index, 11 at the major
    ∷ call (0x11 ∷ 0x01 ∷ 0x00 ∷ 0x00 ∷ 0x01 ∷ 0xAA ∷ []) None 20 (refused 7 5) []
    ∷ call (0x11 ∷ 0x01 ∷ 0x00 ∷ []) (Some (0x74 ∷ 0x6F ∷ [])) 20 (refused 9 8) []
    ∷ call (0x11 ∷ 0x01 ∷ 0x00 ∷ 0x10 ∷ 0x01 ∷ 0x00 ∷ []) None 20 (refused 10 6) []
    ∷ call (0x61 ∷ 0x06 ∷ 0x00 ∷ 0x00 ∷ 0x64 ∷ 0x00 ∷ 0x41 ∷ 0x41 ∷ []) (Some (0xC1 ∷ [])) 20 (refused 11 6) []
    ∷ []

writes : map outcome calls ≡ map expected calls
unfolding written checked image body rule46 bad_item run_size number_from judged rule1 rule2 rule3 rule4 rule5 rule6 rule7 rule8 rule9 rule10 rule11 bad_index bad_revision is_major first visit chain next head_size data_length pool split texts shape_of tab flatten crc8 reduce bring bits_of bits_of_all listed all is_text
writes = refl

-- ---- case 4: what laws/Written and laws/Rebuilt claim of every image, here by computation alone
pub record Computed : Type 0 where
  pub written4 : written parts4 (blank 14) ≡ (Ok 12, case4 ++ blank 2)
  pub again : judged full (case4 ++ blank 2) ≡ Ok 2
  pub back : parts_of (case4 ++ blank 2) ≡ parts4
  pub accepted4 : judged full case4 ≡ Ok 2
  pub rebuilt4 : written (parts_of case4) (blank 14) ≡ (Ok 12, case4 ++ blank 2)

pub computed : Computed
unfolding written checked image body rule46 bad_item run_size number_from judged rule1 rule2 rule3 rule4 rule5 rule6 rule7 rule8 rule9 rule10 rule11 bad_index bad_revision is_major first visit chain next head_size data_length pool split texts shape_of tab flatten crc8 reduce bring bits_of bits_of_all listed all is_text run_of pool_of keep
computed = record { written4 = refl; again = refl; back = refl; accepted4 = refl; rebuilt4 = refl }
