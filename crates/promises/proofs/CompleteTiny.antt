-- What a reader answers about a tiny image tells each byte that an answer is about: by the laws of the crate tiny, over what is shown at each place.
-- Assumes nothing.
use Rattle.std.specs.Prelude.{Ok}
use Prim.Native.Nat.{ℕ}
use mathlib.Core.List.{List}
use mathlib.Core.Logic.{◌⊎◌}
use mathlib.Core.Path.{◌≡◌, refl, sym, ap, ◌∙◌}
use Rattle.kinds.specs.declared.Kind.{Kind}
use Rattle.kinds.specs.declared.Kind.TheVariants.{Tag, Signature}
use Rattle.kinds.specs.declared.Kinds.{Kinds}
use Rattle.octets.specs.Bytes.{Octets}
use Rattle.promises.proofs.Given.{view}
use Rattle.promises.proofs.Stand.{both-stand}
use Rattle.promises.specs.Answers.{answers}
use Rattle.promises.specs.Complete.{AgreeBut, SameFurther}
use Rattle.reader.specs.Formats.{judged}
use Rattle.reader.specs.Values as reader
use Rattle.reader.specs.Values.{tiny_fields}
use Rattle.reader.specs.declared.Format.TheVariants.{Tiny}
use Rattle.tiny.specs.Items.{item_at}
use Rattle.tiny.specs.NotShown.{InIndex, NotShown}
use Rattle.tiny.specs.Values.{FieldValues, ItemValues, pool, serial, flags, address, identity, batched, not_known, item_values}
use Rattle.tiny.proofs.laws.Told.{AllBoth, totals, complete-tiny}
use Rattle.tiny_layout.specs.Pool as layout

-- ---- an item's values in the format's own terms, and back
abbrev tag_of : Kind → ℕ
tag_of (Tag tag) = tag
tag_of (Signature g) = g

abbrev fields_of : reader.FieldValues → FieldValues
fields_of (reader.tiny-fields x) = x
fields_of (reader.board-fields l) = not_known
fields_of reader.not_known = not_known

abbrev back : reader.ItemValues → ItemValues
back v = record { kind = tag_of v.kind; place = v.place; length = v.length; fields = fields_of v.fields }

fields-back : (x : FieldValues) → fields_of (tiny_fields x) ≡ x
fields-back (pool n p l) = refl
fields-back (serial r) = refl
fields-back (flags b) = refl
fields-back (address l) = refl
fields-back (identity x) = refl
fields-back (batched x b) = refl
fields-back not_known = refl

-- ---- two images
all-both : (k : Kinds) (s t : List ℕ) (c d : ℕ) → judged Tiny k s ≡ Ok c → judged Tiny k t ≡ Ok d
    → ((i : ℕ) → (answers Tiny k s).item i ≡ (answers Tiny k t).item i) → AllBoth k s t
all-both k s t c d e g items i p at =
    let w = both-stand Tiny k s t c d e g items i p at in
    record { too = w.too; item = sym (values-back s) ∙ ap back w.item ∙ values-back t }
  where
    values-back : (x : List ℕ) → back ((view Tiny k x).item p) ≡ item_values x (item_at k x (layout.pool k x) p)
    values-back x j =
        let v : ItemValues = item_values x (item_at k x (layout.pool k x) p) in
        record { kind = v.kind; place = v.place; length = v.length; fields = fields-back v.fields j }

pub tiny-told : (k : Kinds) (s t : List ℕ) → Octets s → Octets t → (c d : ℕ) → judged Tiny k s ≡ Ok c → judged Tiny k t ≡ Ok d
    → ((i : ℕ) → (answers Tiny k s).item i ≡ (answers Tiny k t).item i) → SameFurther Tiny (answers Tiny k s).further (answers Tiny k t).further
    → AgreeBut Tiny (λ q. NotShown k s q ⊎ InIndex k s q) s t
unfolding answers
tiny-told k s t good fine c d e g items strings =
    let both : AllBoth k s t = all-both k s t c d e g items in
    let other : AllBoth k t s = all-both k t s d c g e (λ i. sym (items i)) in
    record { length = totals k s t good fine c d e g both other strings; bytes = complete-tiny k s t good fine c d e g both other strings }
