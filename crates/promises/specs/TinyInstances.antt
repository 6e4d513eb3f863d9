-- Demand 3 at a few tiny images, by computation alone: no law is used. A definition under which one of these is false is ruled out by the claim itself, and not
-- only by how the claim is proved. Assumes nothing.
use Rattle.std.specs.Prelude.{ℕ, Bool, true, false, cond, not, ◌&&◌, List, [], ◌∷◌, map, ◌≡◌, refl, replicate}
use Rattle.chain.specs.All.{All}
use Rattle.chain.specs.Chain.{visit, chain}
use Rattle.chain.specs.Fill.{tab}
use Rattle.chain.specs.First.{first}
use Rattle.chain.specs.Keep.{keep, only}
use Rattle.chain.specs.Nth.{nth}
use Rattle.chain.specs.Onward.{onward}
use Rattle.crc.specs.Crc8.{crc8, reduce, bring, bits_of, bits_of_all}
use Rattle.kinds.specs.Kinds.{listed, picked, all, full, bare, same}
use Rattle.kinds.specs.declared.Kind.TheVariants.{Tag}
use Rattle.kinds.specs.declared.Kinds.{Kinds}
use Rattle.octets.specs.Bytes.{le16}
use Rattle.octets.specs.Label.{is_text}
use Rattle.promises.specs.Answers.{Answers, answers}
use Rattle.promises.specs.Asked.{without, blank, marked}
use Rattle.promises.specs.Demand3.{as_step}
use Rattle.promises.specs.Hidden.{has_pool, hidden}
use Rattle.reader.specs.Answers.{item_numbered, list_of}
use Rattle.reader.specs.Entries.{entry_at}
use Rattle.reader.specs.Values as reader
use Rattle.reader.specs.Values.{ItemValues, StepValues, FieldValues}
use Rattle.reader.specs.Walk.{moved, shown, walked, step_numbered}
use Rattle.reader.specs.declared.Entry.{Entry}
use Rattle.reader.specs.declared.Format.TheVariants.{Tiny}
use Rattle.tiny.specs.Answers.{string_numbered, name_of}
use Rattle.tiny.specs.Items.{identity_at, batched_at, pool_shown, item_at}
use Rattle.tiny.specs.Major.{major_text}
use Rattle.tiny.specs.Values as tiny
use Rattle.tiny.specs.Values.{ReferenceValue}
use Rattle.tiny_layout.specs.Layout.{head_size, data_length, next}
use Rattle.tiny_layout.specs.Pool.{pool}
use Rattle.tiny_layout.specs.Strings.{split, texts, string_end, reference}
use Rattle.tiny_layout.specs.Tags.{shape_of}
use Rattle.tiny_rules.specs.Judged.{judged}
use Rattle.tiny_rules.specs.Rules.{rule1, rule2, rule3, rule4, rule5, rule6, rule7, rule8, rule9, rule10, rule11, bad_index, is_major, bad_revision, bad_batch}
use Rattle.verdict.specs.Said.{Said, says, refused}

-- serial 0, flags 0Fh, pool "top1"; with other flags, and two bytes lent past it; with an index that no string has; a pool that is not last; an identity
abbrev pub one : List ℕ
one = 0x56 ∷ 0x02 ∷ 0x0E ∷ 0x10 ∷ 0x00 ∷ 0x11 ∷ 0x0F ∷ 0x01 ∷ 0x04 ∷ 0x74 ∷ 0x6F ∷ 0x70 ∷ 0xB1 ∷ 0x48 ∷ []

abbrev pub other : List ℕ
other = 0x56 ∷ 0x02 ∷ 0x0E ∷ 0x10 ∷ 0x00 ∷ 0x11 ∷ 0xAA ∷ 0x01 ∷ 0x04 ∷ 0x74 ∷ 0x6F ∷ 0x70 ∷ 0xB1 ∷ 0xC9 ∷ 0x07 ∷ 0x08 ∷ []

abbrev pub third : List ℕ
third = 0x56 ∷ 0x02 ∷ 0x0E ∷ 0x10 ∷ 0x05 ∷ 0x11 ∷ 0x0F ∷ 0x01 ∷ 0x04 ∷ 0x74 ∷ 0x6F ∷ 0x70 ∷ 0xB1 ∷ 0xD2 ∷ 0x09 ∷ []

abbrev early : List ℕ
early = 0x56 ∷ 0x02 ∷ 0x0C ∷ 0x01 ∷ 0x04 ∷ 0x74 ∷ 0x6F ∷ 0x70 ∷ 0xB1 ∷ 0x11 ∷ 0x0F ∷ 0xC3 ∷ []

abbrev ident : List ℕ
ident =
    0x56 ∷ 0x02 ∷ 0x15 ∷ 0x10 ∷ 0x00 ∷ 0x61 ∷ 0x00 ∷ 0x01 ∷ 0x63 ∷ 0x05 ∷ 0x41 ∷ 0x42 ∷ 0x01 ∷ 0x06 ∷ 0x74 ∷ 0x6F ∷ 0x70 ∷ 0xB1 ∷ 0x78 ∷ 0xF9 ∷ 0x8A ∷ []

-- what is asked: the judge, items 0 to 3, lists of four and of one, steps 0 to 4, strings 0 to 2, buffers of five and of one
pub record Seen : Type 0 where
  pub judge : Said ℕ
  pub items : List (Said ItemValues)
  pub lists : List (Said ℕ × List Entry)
  pub walk : List (Said StepValues)
  pub strings : List (Said ReferenceValue)
  pub names : List (Said ℕ × List ℕ)

abbrev pub seen : Answers Tiny → Seen
seen a =
    record {
      judge = a.judge;
      items = map a.item (0 ∷ 1 ∷ 2 ∷ 3 ∷ []);
      lists = map a.list (replicate 4 blank ∷ replicate 1 blank ∷ []);
      walk = map a.walk (0 ∷ 1 ∷ 2 ∷ 3 ∷ 4 ∷ []);
      strings = map a.further.string (0 ∷ 1 ∷ 2 ∷ []);
      names = map a.further.name ((1 ∷ 2 ∷ 3 ∷ 4 ∷ 5 ∷ []) ∷ (1 ∷ []) ∷ []);
    }

-- ---- both directions of "exactly when", as tests
abbrev accepts : Answers Tiny → Bool
accepts a = elim a.judge [ says n ↦ true | refused n p ↦ false ]

-- a string is decoded exactly where the list has the pool
abbrev decoded : Kinds → ReferenceValue → Bool
decoded k (tiny.text l) = has_pool k
decoded k tiny.undecodable = not (has_pool k)

abbrev tiny_decoded : Kinds → tiny.FieldValues → Bool
tiny_decoded k (tiny.pool n p l) = true
tiny_decoded k (tiny.serial r) = decoded k r
tiny_decoded k (tiny.flags b) = true
tiny_decoded k (tiny.address bytes) = true
tiny_decoded k (tiny.identity x) = decoded k x.serial && decoded k x.part
tiny_decoded k (tiny.batched x b) = decoded k x.serial && decoded k x.part
tiny_decoded k tiny.not_known = true

abbrev fields_decoded : Kinds → FieldValues → Bool
fields_decoded k (reader.tiny-fields x) = tiny_decoded k x
fields_decoded k (reader.board-fields x) = true
fields_decoded k reader.not_known = true

abbrev item_decoded : Kinds → Said ItemValues → Bool
item_decoded k (says x) = fields_decoded k x.fields
item_decoded k (refused n p) = true

abbrev looked_up : Kinds → Said ReferenceValue → Bool
looked_up k (says r) = decoded k r
looked_up k (refused n p) = has_pool k

abbrev every : List Bool → Bool
every [] = true
every (b ∷ bs) = let more = every bs in cond b more false

abbrev exact : Kinds → List ℕ → Bool
exact k s =
    cond (accepts (answers Tiny k s))
    (every (map (λ i. marked Tiny k s ((answers Tiny k s).item i)) (0 ∷ 1 ∷ 2 ∷ []))
    && (every (map (λ i. item_decoded k ((answers Tiny k s).item i)) (0 ∷ 1 ∷ 2 ∷ []))
    && every (map (λ n. looked_up k ((answers Tiny k s).further.string n)) (0 ∷ 1 ∷ 2 ∷ [])))) true

-- ---- the claim's clauses, each at lists and images
data Instance : Type 0 where
  -- "All else that it answers is as the longer answers"
  alike : Kinds → List ℕ → Instance
  -- "It is accepted with the shorter."
  accepted : Kinds → List ℕ → Instance
  -- "exactly when"
  exactly : Kinds → List ℕ → Instance
  -- "Whatever it is asked, it answers the same for both."
  same-answers : Kinds → List ℕ → List ℕ → Instance
  -- "step i (from 0) shows item i as asked by number for every i below the count, and the step at the count says that none is left"
  steps : Kinds → List ℕ → Instance

abbrev Holds : Instance → Type 0
Holds (alike k s) = seen (answers Tiny k s) ≡ seen (hidden Tiny k (answers Tiny full s))
Holds (accepted k s) = cond (accepts (answers Tiny full s)) (accepts (answers Tiny k s)) true ≡ true
Holds (exactly k s) = exact k s ≡ true
Holds (same-answers k s t) = seen (answers Tiny k s) ≡ seen (answers Tiny k t)
Holds (steps k s) =
    map (answers Tiny k s).walk (0 ∷ 1 ∷ 2 ∷ 3 ∷ [])
    ≡ as_step ((answers Tiny k s).item 0) ∷ as_step ((answers Tiny k s).item 1) ∷ as_step ((answers Tiny k s).item 2) ∷ says reader.none_left ∷ []

abbrev instances : List Instance
instances =
    alike (without (Tag 0x01)) one
    ∷ alike (without (Tag 0x01)) ident
    ∷ alike (without (Tag 0x10)) one
    ∷ alike (without (Tag 0x11)) one
    ∷ alike (without (Tag 0x61)) ident
    ∷ alike bare ident
    ∷ accepted (without (Tag 0x01)) one
    ∷ accepted (without (Tag 0x01)) early
    ∷ accepted (without (Tag 0x10)) third
    ∷ exactly full one
    ∷ exactly full third
    ∷ exactly full ident
    ∷ exactly (without (Tag 0x01)) one
    ∷ exactly (without (Tag 0x01)) early
    ∷ exactly (without (Tag 0x11)) one
    ∷ same-answers (without (Tag 0x11)) one other
    ∷ same-answers (without (Tag 0x10)) one third
    ∷ steps full one
    ∷ steps (without (Tag 0x11)) one
    ∷ steps full ident
    ∷ []

instances-hold : All Holds instances
unfolding answers hidden item_numbered list_of entry_at onward moved shown walked step_numbered judged rule1 rule2 rule3 rule4 rule5 rule6 rule7 rule8 rule9 rule10 rule11 bad_index is_major bad_revision bad_batch string_numbered name_of item_at identity_at batched_at pool_shown major_text first visit chain keep only nth next head_size data_length pool split texts string_end reference shape_of tab le16 crc8 reduce bring bits_of bits_of_all listed picked all same is_text
instances-hold =
    (refl, (refl, (refl, (refl, (refl, (refl, (refl, (refl, (refl, (refl, (refl, (refl, (refl, (refl, (refl, (refl, (refl, (refl, (refl, (refl, tt))))))))))))))))))))
