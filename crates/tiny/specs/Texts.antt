-- What the answers say of texts, by the split of the pool. An answer carries a text by its place; the contracts say beside it which text that is.
-- Assumes nothing.
use Rattle.std.specs.Prelude.{ℕ, ◌+◌, cond, List, [], ◌≡◌, ltb, length, get_or, Ok, Err}
use Rattle.kinds.specs.Kinds.{listed}
use Rattle.kinds.specs.declared.Kind.TheVariants.{Tag}
use Rattle.kinds.specs.declared.Kinds.{Kinds}
use Rattle.octets.specs.Bytes.{byte}
use Rattle.tiny_layout.specs.Layout.{data_at}
use Rattle.tiny_layout.specs.Pool.{pool}
use Rattle.tiny_layout.specs.Strings.{texts}
use Rattle.tiny_rules.specs.Judged.{judged}
use Rattle.tiny.specs.Values.{ReferenceValue, text, undecodable, FieldValues, field_values}
use Rattle.tiny.specs.AnswerTypes.{ItemAnswer}
use Rattle.verdict.specs.Said.{Said, says, refused}
use Rattle.verdict.specs.Answers.{Judged}

-- what an index n refers to: text n of the listed pool; undecodable where it has none of that number
abbrev pub referred : Kinds → List ℕ → ℕ → ReferenceValue
referred k s n =
    cond (ltb n (length (texts s (pool k s)))) (text (get_or (texts s (pool k s)) n [])) undecodable

-- string by number: text n of the listed pool, 42 where n is not below the string count, undecodable where 01 is not on the list
abbrev pub text_if : Kinds → List ℕ → ℕ → Judged → Said ReferenceValue
text_if k s n (Ok count) =
    cond (listed k (Tag 0x01))
    (cond (ltb n (length (texts s (pool k s)))) (says (text (get_or (texts s (pool k s)) n []))) (refused 42 0))
    (says undecodable)
text_if k s n (Err r) = refused r.number r.place

unfoldable pub text_numbered : Kinds → List ℕ → ℕ → Said ReferenceValue
text_numbered k s n = text_if k s n (judged k s)

-- the references of an item's fields, each with the number of its index byte: 0 for the serial's, 1 for the part's
abbrev pub EachIndexed : (ℕ → ReferenceValue → Type 0) → FieldValues → Type 0
EachIndexed P (FieldValues.pool n p l) = Unit {0}
EachIndexed P (FieldValues.serial r) = P 0 r
EachIndexed P (FieldValues.flags b) = Unit {0}
EachIndexed P (FieldValues.address bytes) = Unit {0}
EachIndexed P (FieldValues.identity x) = P 0 x.serial × P 1 x.part
EachIndexed P (FieldValues.batched x b) = P 0 x.serial × P 1 x.part
EachIndexed P FieldValues.not_known = Unit {0}

-- item by number: each reference shown is what its index byte refers to
abbrev pub ShowsTexts : Kinds → List ℕ → ItemAnswer → Type 0
ShowsTexts k s (Ok x) =
    EachIndexed (λ i r. r ≡ referred k s (byte s (data_at s x.place + i))) (field_values s x.item)
ShowsTexts k s (Err r) = Unit {0}
