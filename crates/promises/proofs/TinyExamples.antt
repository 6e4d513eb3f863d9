-- Demand 3 at two readers of a tiny image and at two tiny images: its premises are met there, by a shorter list that really knows less and by images that
-- really differ; and what is answered there, written out. Assumes nothing.
use Prim.Native.Nat.{ℕ}
use borrow.Author.Tests.{eqb-true}
use mathlib.Core.Bool.{Bool, true, false, false≢true}
use mathlib.Core.List.{List, [], ◌∷◌}
use mathlib.Core.Logic.{◌⊎◌, inl, inr}
use mathlib.Core.Path.{◌≡◌, refl, sym, ap, ◌∙◌}
use native.Mathlib.Omega.{arith}
use lib.Dec.{eqb}
use Rattle.chain.specs.Chain.{visit, chain}
use Rattle.chain.specs.Fill.{tab}
use Rattle.chain.specs.First.{first}
use Rattle.chain.specs.Keep.{keep, only}
use Rattle.chain.specs.Nth.{nth}
use Rattle.chain.specs.Onward.{onward}
use Rattle.chain.proofs.laws.Nth.{nth-all}
use Rattle.crc.specs.Crc8.{crc8, reduce, bring, bits_of, bits_of_all}
use Rattle.kinds.specs.Kinds.{listed, picked, all, full, same}
use Rattle.kinds.specs.declared.Kind.TheVariants.{Tag}
use Rattle.kinds.proofs.laws.Kinds.{full-contains}
use Rattle.octets.specs.Bytes.{le16, byte}
use Rattle.octets.specs.Label.{is_text}
use Rattle.promises.proofs.Complete.{complete}
use Rattle.promises.proofs.Demand3.{demand3}
use Rattle.promises.proofs.Differ.{one-of-three, octets-tested}
use Rattle.promises.specs.Answers.{answers}
use Rattle.promises.specs.Complete.{NotShown, NotTold, AgreeBut}
use Rattle.promises.specs.Demand3.{Accepted, TwoReaders}
use Rattle.promises.specs.Hidden.{hidden}
use Rattle.promises.specs.SameOutside.{on_list, SameOutside, InCheck, InsideUnknown}
use Rattle.promises.specs.Asked.{without, blank}
use Rattle.promises.specs.TinyInstances as instances
use Rattle.reader.specs.Answers.{item_numbered, list_of}
use Rattle.reader.specs.Entries.{entry_at}
use Rattle.reader.specs.Formats.{places}
use Rattle.reader.specs.Values as reader
use Rattle.reader.specs.Values.{ItemValues, FieldValues}
use Rattle.reader.specs.Walk.{moved, shown as step-shown, walked, step_numbered}
use Rattle.reader.specs.declared.Entry.{Entry}
use Rattle.reader.specs.declared.Format.TheVariants.{Tiny}
use Rattle.tiny.specs.Answers.{string_numbered, name_of}
use Rattle.tiny.specs.Items.{identity_at, batched_at, pool_shown, item_at}
use Rattle.tiny.specs.Major.{major_text}
use Rattle.tiny.specs.NotShown.{InIndex, check, index}
use Rattle.tiny.specs.Values as values
use Rattle.tiny.specs.Values.{ReferenceValue}
use Rattle.tiny_layout.specs.Layout.{head_size, data_length, next}
use Rattle.tiny_layout.specs.Pool.{pool}
use Rattle.tiny_layout.specs.Strings.{split, texts, string_end, reference}
use Rattle.tiny_layout.specs.Tags.{shape_of}
use Rattle.tiny_rules.specs.Judged.{judged}
use Rattle.tiny_rules.specs.Rules.{rule1, rule2, rule3, rule4, rule5, rule6, rule7, rule8, rule9, rule10, rule11, bad_index, is_major, bad_revision, bad_batch}
use Rattle.verdict.specs.Said.{says, refused}

-- ---- 01 off the list; then 11 off the list, and other flags
accepts-one : Accepted (answers Tiny full instances.one)
unfolding answers hidden item_numbered list_of entry_at onward moved step-shown walked step_numbered judged rule1 rule2 rule3 rule4 rule5 rule6 rule7 rule8 rule9 rule10 rule11 bad_index is_major bad_revision bad_batch string_numbered name_of item_at identity_at batched_at pool_shown major_text first visit chain keep only nth next head_size data_length pool split texts string_end reference shape_of tab le16 crc8 reduce bring bits_of bits_of_all listed picked all same is_text
accepts-one = (3, refl)

readers-one : TwoReaders Tiny full (without (Tag 0x01)) instances.one
readers-one = (demand3 Tiny).readers full (without (Tag 0x01)) (full-contains (without (Tag 0x01))) instances.one accepts-one

flagless-one : Accepted (answers Tiny (without (Tag 0x11)) instances.one)
unfolding answers hidden item_numbered list_of entry_at onward moved step-shown walked step_numbered judged rule1 rule2 rule3 rule4 rule5 rule6 rule7 rule8 rule9 rule10 rule11 bad_index is_major bad_revision bad_batch string_numbered name_of item_at identity_at batched_at pool_shown major_text first visit chain keep only nth next head_size data_length pool split texts string_end reference shape_of tab le16 crc8 reduce bring bits_of bits_of_all listed picked all same is_text
flagless-one = (3, refl)

flagless-other : Accepted (answers Tiny (without (Tag 0x11)) instances.other)
unfolding answers hidden item_numbered list_of entry_at onward moved step-shown walked step_numbered judged rule1 rule2 rule3 rule4 rule5 rule6 rule7 rule8 rule9 rule10 rule11 bad_index is_major bad_revision bad_batch string_numbered name_of item_at identity_at batched_at pool_shown major_text first visit chain keep only nth next head_size data_length pool split texts string_end reference shape_of tab le16 crc8 reduce bring bits_of bits_of_all listed picked all same is_text
flagless-other = (3, refl)

-- they differ in the check byte, at 13, and at 6, inside the flags at 5
differ : SameOutside Tiny (without (Tag 0x11)) instances.one instances.other
unfolding answers hidden item_numbered list_of entry_at onward moved step-shown walked step_numbered judged rule1 rule2 rule3 rule4 rule5 rule6 rule7 rule8 rule9 rule10 rule11 bad_index is_major bad_revision bad_batch string_numbered name_of item_at identity_at batched_at pool_shown major_text first visit chain keep only nth next head_size data_length pool split texts string_end reference shape_of tab le16 crc8 reduce bring bits_of bits_of_all listed picked all same is_text
differ = record { length = refl; bytes = λ q h. go q (one-of-three instances.one instances.other (λ x. eqb x 13) (λ x. eqb x 6) 14 refl q h) }
  where
    flags : (q : ℕ) → q ≡ 6 → InsideUnknown Tiny (without (Tag 0x11)) instances.one q
    flags q e = record { number = 1; place = 5; stands = refl; property = refl; past = omega (arith, e); before = omega (arith, e) }

    go : (q : ℕ) → (byte instances.one q ≡ byte instances.other q) ⊎ ((eqb q 13 ≡ true) ⊎ (eqb q 6 ≡ true))
        → (byte instances.one q ≡ byte instances.other q) ⊎ (InCheck Tiny instances.one q ⊎ InsideUnknown Tiny (without (Tag 0x11)) instances.one q)
    go q (inl e) = inl e
    go q (inr (inl e)) = inr (inl (eqb-true q 13 e))
    go q (inr (inr e)) = inr (inr (flags q (eqb-true q 6 e)))

images-one : answers Tiny (without (Tag 0x11)) instances.one ≡ answers Tiny (without (Tag 0x11)) instances.other
images-one = (demand3 Tiny).images (without (Tag 0x11)) instances.one instances.other flagless-one flagless-other differ

-- to a reader that knows flags these two are no such images: nothing of them is inside an item that it does not know
told-apart : SameOutside Tiny full instances.one instances.other → ⊥
unfolding answers hidden item_numbered list_of entry_at onward moved step-shown walked step_numbered judged rule1 rule2 rule3 rule4 rule5 rule6 rule7 rule8 rule9 rule10 rule11 bad_index is_major bad_revision bad_batch string_numbered name_of item_at identity_at batched_at pool_shown major_text first visit chain keep only nth next head_size data_length pool split texts string_end reference shape_of tab le16 crc8 reduce bring bits_of bits_of_all listed picked all same is_text
told-apart same = go (same.bytes 6 (omega arith))
  where
    go : (byte instances.one 6 ≡ byte instances.other 6) ⊎ (InCheck Tiny instances.one 6 ⊎ InsideUnknown Tiny full instances.one 6) → ⊥
    go (inl e) = omega (arith, e)
    go (inr (inl e)) = omega (arith, e)
    go (inr (inr u)) =
        false≢true
        (sym u.property ∙ nth-all (λ p. on_list Tiny full instances.one p ≡ true) (places Tiny instances.one) u.number u.place (refl, (refl, (refl, tt))) u.stands)

-- ---- what is answered by the full list and without 01
abbrev entry : ℕ → ℕ → ℕ → Bool → Entry
entry kind place length known = record { kind = kind; place = place; length = length; known = known }

abbrev shown : ℕ → ℕ → ℕ → reader.FieldValues → reader.ItemValues
shown tag place length fields = record { kind = Tag tag; place = place; length = length; fields = fields }

abbrev top1 : List ℕ
top1 = 0x74 ∷ 0x6F ∷ 0x70 ∷ 0x31 ∷ []

abbrev serial : values.ReferenceValue → reader.ItemValues
serial r = shown 0x10 3 1 (reader.tiny-fields (values.serial r))

abbrev flags : reader.ItemValues
flags = shown 0x11 5 1 (reader.tiny-fields (values.flags 0x0F))

abbrev pool1 : reader.FieldValues → reader.ItemValues
pool1 fields = shown 0x01 7 4 fields

full-sees : instances.seen (answers Tiny full instances.one)
    ≡ record {
      judge = says 3;
      items = says (serial (values.text top1)) ∷ says flags ∷ says (pool1 (reader.tiny-fields (values.pool 1 9 4))) ∷ refused 42 0 ∷ [];
      lists = (says 3, entry 0x10 3 1 true ∷ entry 0x11 5 1 true ∷ entry 0x01 7 4 true ∷ blank ∷ []) ∷ (refused 43 0, blank ∷ []) ∷ [];
      walk =
          says (reader.item (serial (values.text top1))) ∷ says (reader.item flags) ∷ says (reader.item (pool1 (reader.tiny-fields (values.pool 1 9 4))))
          ∷ says reader.none_left ∷ says reader.none_left ∷ [];
      strings = says (values.text top1) ∷ refused 42 0 ∷ refused 42 0 ∷ [];
      names = (says 4, 0x74 ∷ 0x6F ∷ 0x70 ∷ 0x31 ∷ 5 ∷ []) ∷ (refused 43 0, 1 ∷ []) ∷ [];
    }
unfolding answers hidden item_numbered list_of entry_at onward moved step-shown walked step_numbered judged rule1 rule2 rule3 rule4 rule5 rule6 rule7 rule8 rule9 rule10 rule11 bad_index is_major bad_revision bad_batch string_numbered name_of item_at identity_at batched_at pool_shown major_text first visit chain keep only nth next head_size data_length pool split texts string_end reference shape_of tab le16 crc8 reduce bring bits_of bits_of_all listed picked all same is_text
full-sees = refl

poolless-sees : instances.seen (answers Tiny (without (Tag 0x01)) instances.one)
    ≡ record {
      judge = says 3;
      items = says (serial values.undecodable) ∷ says flags ∷ says (pool1 reader.not_known) ∷ refused 42 0 ∷ [];
      lists = (says 3, entry 0x10 3 1 true ∷ entry 0x11 5 1 true ∷ entry 0x01 7 4 false ∷ blank ∷ []) ∷ (refused 43 0, blank ∷ []) ∷ [];
      walk =
          says (reader.item (serial values.undecodable)) ∷ says (reader.item flags) ∷ says (reader.item (pool1 reader.not_known))
          ∷ says reader.none_left ∷ says reader.none_left ∷ [];
      strings = says values.undecodable ∷ says values.undecodable ∷ says values.undecodable ∷ [];
      names = (refused 44 0, 1 ∷ 2 ∷ 3 ∷ 4 ∷ 5 ∷ []) ∷ (refused 44 0, 1 ∷ []) ∷ [];
    }
unfolding answers hidden item_numbered list_of entry_at onward moved step-shown walked step_numbered judged rule1 rule2 rule3 rule4 rule5 rule6 rule7 rule8 rule9 rule10 rule11 bad_index is_major bad_revision bad_batch string_numbered name_of item_at identity_at batched_at pool_shown major_text first visit chain keep only nth next head_size data_length pool split texts string_end reference shape_of tab le16 crc8 reduce bring bits_of bits_of_all listed picked all same is_text
poolless-sees = refl

-- ---- a reader without the pool shows no string: two images that differ in a string's number, at 4, and in the check byte are answered alike
poolless-one : Accepted (answers Tiny (without (Tag 0x01)) instances.one)
unfolding answers hidden item_numbered list_of entry_at onward moved step-shown walked step_numbered judged rule1 rule2 rule3 rule4 rule5 rule6 rule7 rule8 rule9 rule10 rule11 bad_index is_major bad_revision bad_batch string_numbered name_of item_at identity_at batched_at pool_shown major_text first visit chain keep only nth next head_size data_length pool split texts string_end reference shape_of tab le16 crc8 reduce bring bits_of bits_of_all listed picked all same is_text
poolless-one = (3, refl)

poolless-third : Accepted (answers Tiny (without (Tag 0x01)) instances.third)
unfolding answers hidden item_numbered list_of entry_at onward moved step-shown walked step_numbered judged rule1 rule2 rule3 rule4 rule5 rule6 rule7 rule8 rule9 rule10 rule11 bad_index is_major bad_revision bad_batch string_numbered name_of item_at identity_at batched_at pool_shown major_text first visit chain keep only nth next head_size data_length pool split texts string_end reference shape_of tab le16 crc8 reduce bring bits_of bits_of_all listed picked all same is_text
poolless-third = (3, refl)

numbers : AgreeBut Tiny (NotShown Tiny (without (Tag 0x01)) instances.one) instances.one instances.third
unfolding answers hidden item_numbered list_of entry_at onward moved step-shown walked step_numbered judged rule1 rule2 rule3 rule4 rule5 rule6 rule7 rule8 rule9 rule10 rule11 bad_index is_major bad_revision bad_batch string_numbered name_of item_at identity_at batched_at pool_shown major_text first visit chain keep only nth next head_size data_length pool split texts string_end reference shape_of tab le16 crc8 reduce bring bits_of bits_of_all listed picked all same is_text
numbers = record { length = refl; bytes = λ q h. go q (one-of-three instances.one instances.third (λ x. eqb x 13) (λ x. eqb x 4) 14 refl q h) }
  where
    serial-index : (q : ℕ) → q ≡ 4 → InIndex (without (Tag 0x01)) instances.one q
    serial-index q e = record { number = 0; place = 3; stands = refl; property = refl; past = omega (arith, e); before = omega (arith, e) }

    go : (q : ℕ) → (byte instances.one q ≡ byte instances.third q) ⊎ ((eqb q 13 ≡ true) ⊎ (eqb q 4 ≡ true))
        → (byte instances.one q ≡ byte instances.third q) ⊎ NotShown Tiny (without (Tag 0x01)) instances.one q
    go q (inl e) = inl e
    go q (inr (inl e)) = inr (check (eqb-true q 13 e))
    go q (inr (inr e)) = inr (index refl (serial-index q (eqb-true q 4 e)))

numbers-alike : answers Tiny (without (Tag 0x01)) instances.one ≡ answers Tiny (without (Tag 0x01)) instances.third
numbers-alike = (complete Tiny).alike (without (Tag 0x01)) instances.one instances.third poolless-one poolless-third numbers

-- ---- and what is answered alike agrees on all else: the two images that differ in flags, to a reader that does not know them
flags-told :
    AgreeBut Tiny (λ q. NotShown Tiny (without (Tag 0x11)) instances.one q ⊎ NotTold Tiny (without (Tag 0x11)) instances.one q) instances.one instances.other
unfolding first visit chain
flags-told =
    (complete Tiny).told (without (Tag 0x11)) instances.one instances.other (octets-tested instances.one refl) (octets-tested instances.other refl) flagless-one flagless-other
    (λ i. ap (λ x. x.item i) images-one) (λ n. ap (λ x. x.further.string n) images-one)
