-- What each tag shows, by computation: an accepted image with one item of each, whose values all differ, and each value written out; and what an index refers to.
-- Assumes nothing.
use Rattle.std.specs.Prelude.{ℕ, List, [], ◌∷◌, map, ◌≡◌, refl}
use Rattle.chain.specs.Chain.{visit, chain}
use Rattle.chain.specs.Fill.{tab}
use Rattle.chain.specs.First.{first}
use Rattle.chain.specs.Keep.{keep}
use Rattle.chain.specs.Nth.{nth}
use Rattle.crc.specs.Crc8.{crc8, reduce, bring, bits_of, bits_of_all}
use Rattle.kinds.specs.Kinds.{listed, all, full}
use Rattle.octets.specs.Bytes.{le16}
use Rattle.octets.specs.Label.{is_text}
use Rattle.tiny_layout.specs.Layout.{head_size, data_length, next}
use Rattle.tiny_layout.specs.Pool.{pool}
use Rattle.tiny_layout.specs.Strings.{split, texts, string_end, reference}
use Rattle.tiny_layout.specs.Tags.{shape_of}
use Rattle.tiny_rules.specs.Judged.{judged}
use Rattle.tiny_rules.specs.Rules.{rule1, rule2, rule3, rule4, rule5, rule6, rule7, rule8, rule9, rule10, rule11, bad_index, is_major, bad_revision, bad_batch}
use Rattle.tiny.specs.Answers.{item_numbered}
use Rattle.tiny.specs.Items.{item_at, identity_at, batched_at, pool_shown}
use Rattle.tiny.specs.Major.{major_text}
use Rattle.tiny.specs.Texts.{referred}
use Rattle.tiny.specs.Values as values
use Rattle.tiny.specs.Values.{text, undecodable, serial, flags, address, identity, batched, item_said}
use Rattle.verdict.specs.Said.{says}

-- the header, one item to a line, and the check; the pool's strings are S1, P2, P3, S4, S5, P6, P7, S8 and top1
abbrev image : List ℕ
image =
    0x56 ∷ 0x02 ∷ 0x45
    ∷ 0x10 ∷ 0x08
    ∷ 0x11 ∷ 0x0A
    ∷ 0x60 ∷ 0xA1 ∷ 0xB2 ∷ 0xC3 ∷ 0xD4 ∷ 0xE5 ∷ 0xF6
    ∷ 0x61 ∷ 0x00 ∷ 0x01 ∷ 0x8C ∷ 0x11 ∷ 0x43 ∷ 0x44
    ∷ 0x62 ∷ 0x03 ∷ 0x02 ∷ 0x2A ∷ 0x12 ∷ 0x45 ∷ 0x46
    ∷ 0x80 ∷ 0x04 ∷ 0x05 ∷ 0x81 ∷ 0x13 ∷ 0x47 ∷ 0x48 ∷ 0x21 ∷ 0x17
    ∷ 0x81 ∷ 0x07 ∷ 0x06 ∷ 0x57 ∷ 0x14 ∷ 0x49 ∷ 0x4A ∷ 0x34 ∷ 0x12
    ∷ 0x01 ∷ 0x14 ∷ 0x53 ∷ 0xB1 ∷ 0x50 ∷ 0xB2 ∷ 0x50 ∷ 0xB3 ∷ 0x53 ∷ 0xB4 ∷ 0x53 ∷ 0xB5 ∷ 0x50 ∷ 0xB6 ∷ 0x50 ∷ 0xB7 ∷ 0x53 ∷ 0xB8 ∷ 0x74 ∷ 0x6F ∷ 0x70 ∷ 0xB1
    ∷ 0x4B ∷ []

fields-shown : map (λ n. item_said image (item_numbered full image n)) (0 ∷ 1 ∷ 2 ∷ 3 ∷ 4 ∷ 5 ∷ 6 ∷ 7 ∷ [])
    ≡ says (record { kind = 0x10; place = 0x03; length = 1; fields = serial (text (0x74 ∷ 0x6F ∷ 0x70 ∷ 0x31 ∷ [])) })
    ∷ says (record { kind = 0x11; place = 0x05; length = 1; fields = flags 0x0A })
    ∷ says (record { kind = 0x60; place = 0x07; length = 6; fields = address (0xA1 ∷ 0xB2 ∷ 0xC3 ∷ 0xD4 ∷ 0xE5 ∷ 0xF6 ∷ []) })
    ∷ says (record {
      kind = 0x61;
      place = 0x0E;
      length = 6;
      fields = identity (record {
        serial = text (0x53 ∷ 0x31 ∷ []);
        part = text (0x50 ∷ 0x32 ∷ []);
        major = 0x8C;
        letters = 0x30 ∷ 0x4D ∷ [];
        minor = 0x11;
        characters = 0x43 ∷ 0x44 ∷ [];
      });
    })
    ∷ says (record {
      kind = 0x62;
      place = 0x15;
      length = 6;
      fields = identity (record {
        serial = text (0x53 ∷ 0x34 ∷ []);
        part = text (0x50 ∷ 0x33 ∷ []);
        major = 0x2A;
        letters = 0x34 ∷ 0x32 ∷ [];
        minor = 0x12;
        characters = 0x45 ∷ 0x46 ∷ [];
      });
    })
    ∷ says (record {
      kind = 0x80;
      place = 0x1C;
      length = 8;
      fields = batched (record {
        serial = text (0x53 ∷ 0x35 ∷ []);
        part = text (0x50 ∷ 0x36 ∷ []);
        major = 0x81;
        letters = 0x30 ∷ 0x42 ∷ [];
        minor = 0x13;
        characters = 0x47 ∷ 0x48 ∷ [];
      }) 0x1721;
    })
    ∷ says (record {
      kind = 0x81;
      place = 0x25;
      length = 8;
      fields = batched (record {
        serial = text (0x53 ∷ 0x38 ∷ []);
        part = text (0x50 ∷ 0x37 ∷ []);
        major = 0x57;
        letters = 0x38 ∷ 0x37 ∷ [];
        minor = 0x14;
        characters = 0x49 ∷ 0x4A ∷ [];
      }) 0x1234;
    })
    ∷ says (record { kind = 0x01; place = 0x2E; length = 20; fields = values.pool 9 0x30 20 })
    ∷ []
unfolding judged rule1 rule2 rule3 rule4 rule5 rule6 rule7 rule8 rule9 rule10 rule11 bad_index is_major bad_revision bad_batch item_numbered item_at identity_at batched_at pool_shown major_text first visit chain keep nth next head_size data_length pool split texts string_end reference shape_of tab le16 crc8 reduce bring bits_of bits_of_all listed all is_text
fields-shown = refl

-- what an index refers to: of the nine strings the second and the last, and none past them
strings-referred : map (referred full image) (1 ∷ 8 ∷ 9 ∷ []) ≡ text (0x50 ∷ 0x32 ∷ []) ∷ text (0x74 ∷ 0x6F ∷ 0x70 ∷ 0x31 ∷ []) ∷ undecodable ∷ []
unfolding first visit chain keep next head_size data_length pool split texts string_end tab listed all
strings-referred = refl
