-- What is shown of a known item is, under each label of its tag's table, the number, the bytes or the string at that row. (So no field is left out, none is
-- taken from another row, and no two labels are exchanged.) Assumes nothing.
use Rattle.std.specs.Prelude.{ℕ, Bool, true, cond, List, [], ◌∷◌, ◌≡◌, refl}
use Rattle.std.proofs.Common.{ap, ap₂, ◌∙◌, arith}
use Rattle.std.proofs.Math.Numerals.{unary_clauses}
use Rattle.chain.specs.Fill.{tab}
use Rattle.kinds.specs.declared.Kinds.{Kinds}
use Rattle.octets.specs.Bytes.{byte, le16}
use Rattle.octets.specs.Rows.{Value, part, shown_rows}
use Rattle.tiny_layout.specs.Layout.{data_at, data_length, next}
use Rattle.tiny_layout.specs.Pool.{is_known, pool}
use Rattle.tiny_layout.specs.Strings.{reference}
use Rattle.tiny_layout.specs.Tables.{table}
use Rattle.tiny_layout.specs.Tags.{shape_of}
use Rattle.tiny_layout.specs.declared.Pool.{Pool}
use Rattle.tiny_layout.specs.declared.Shape.{Shape}
use Rattle.tiny.specs.Items.{identity_at, batched_at, pool_shown, fields_at, item_at}
use Rattle.tiny.specs.Shown.{string_value, labelled, item_shown}
use Rattle.tiny.specs.Values.{reference_value, field_values}
use Rattle.tiny.specs.declared.Item.{Item}
use Rattle.tiny.proofs.laws.Shown.{reference-shown}

-- the rows, by what an index of the pool refers to
fields-rows : (s : List ℕ) (x : Pool) (p : ℕ) (a : Shape)
    → labelled (field_values s (fields_at s x a p))
    ≡ shown_rows (λ n. string_value (reference_value s (reference s x n))) s (data_at s p) (data_length s p) (table a)
unfolding identity_at batched_at pool_shown le16 tab next
fields-rows s x p Shape.Pool = ap₂ (λ (a b : ℕ). ("pool", part a b) ∷ []) (omega arith) (omega arith)
fields-rows s x p Shape.Serial = simp unary_clauses refl
fields-rows s x p Shape.Flags = simp unary_clauses refl
fields-rows s x p Shape.Address = simp unary_clauses refl
fields-rows s x p Shape.Identity = simp unary_clauses refl
fields-rows s x p Shape.Batched = simp unary_clauses refl
fields-rows s x p Shape.Other = refl

-- the item at p, where its tag is on the list
pub known-rows : (k : Kinds) (s : List ℕ) (p : ℕ) → is_known k s p ≡ true → labelled (field_values s (item_at k s (pool k s) p).item) ≡ item_shown k s p
unfolding item_at
known-rows k s p h =
    ap (λ (b : Bool). labelled (field_values s (cond b (fields_at s (pool k s) (shape_of (byte s p)) p) Item.NotKnown))) h
    ∙ fields-rows s (pool k s) p (shape_of (byte s p))
    ∙ ap (λ (look : ℕ → Value). shown_rows look s (data_at s p) (data_length s p) (table (shape_of (byte s p)))) (λ i n. string_value (reference-shown k s n i))
