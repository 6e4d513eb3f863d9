-- What is shown of the rows of a table tells the bytes of these rows: two images that show the same agree on every byte of a table that leaves none out, but on
-- those of its hidden rows. A number is spelled by one run of bytes only. And rows over the same bytes show the same, wherever these bytes lie. Assumes nothing.
use Rattle.std.specs.Prelude.{ℕ, ◌+◌, ◌≤◌, ◌<◌, ◌⊎◌, ◌≡◌, refl}
use Prim.Native.String.{String}
use mathlib.Core.List.{List, [], ◌∷◌}
use Rattle.std.proofs.Math.Logic.{inl, inr}
use Rattle.std.proofs.Common.{ap, ap₂, ◌∙◌, arith}
use Rattle.chain.specs.All.{All}
use Rattle.chain.proofs.laws.Below.{below}
use Rattle.chain.proofs.laws.Fill.{tab-agree}
use Rattle.octets.specs.Bytes.{byte, Octets, run, little}
use Rattle.octets.specs.Rows.{Form, Kind, Number, Bytes, Index, Reserved, Check, Rest, Row, width, Gapless, Value, number, bytes, part, text, undecodable, Field, shown_row, shown_rows, InRow, hidden_row, HiddenIn}
use Rattle.octets.proofs.laws.Same.{Same}
use Rattle.octets.proofs.laws.Told.{run-told, number-told}

-- ---- a number, or bytes, that are shown
abbrev pub number_in : Value → ℕ
number_in (number n) = n
number_in (bytes l) = 0
number_in (part p n) = 0
number_in (text l) = 0
number_in undecodable = 0

abbrev pub bytes_in : Value → List ℕ
bytes_in (number n) = []
bytes_in (bytes l) = l
bytes_in (part p n) = []
bytes_in (text l) = []
bytes_in undecodable = []

-- the first field's value, and the fields after it
abbrev value_of : List Field → Value
value_of [] = undecodable
value_of (f ∷ fs) = f.1

abbrev after : List Field → List Field
after [] = []
after (f ∷ fs) = fs

-- ---- the rows
module _ (look see : ℕ → Value) (s t : List ℕ) (good : Octets s) (fine : Octets t) (p n m q : ℕ) where
  -- a byte from a row on: it is told by this row, or hidden in it, or a byte of a later row
  module _ (label : String) (a : ℕ) (l r : List Field) (H : Type 0) (h : p + a ≤ q) where
    abbrev Told : Type 0 → Type 0
    Told X = (byte s q ≡ byte t q) ⊎ X

    -- past a row of this width, its later ones decide
    Later : ℕ → Type 0
    Later w = l ≡ r → p + (a + w) ≤ q → Told H

    shown : (w : ℕ) → Same s t (p + a) (p + a + w) → l ≡ r → Later w → Told H
    unfolding Later
    shown w same e later = elim (below q (p + a + w)) [ inl k ↦ inl (same q h k) | inr k ↦ later e (omega arith) ]

    hidden : (w : ℕ) → l ≡ r → Later w → Told (InRow p a w q ⊎ H)
    unfolding Later
    hidden w e later =
        elim (below q (p + a + w)) [
          | inl k ↦ inr (inl (h, k))
          | inr k ↦ elim (later e (omega arith)) [ inl x ↦ inl x | inr x ↦ inr (inr x) ]
        ]

    one-row : (form : Form) → shown_row look s p n label a form l ≡ shown_row see t p m label a form r → Later (width form) → Told (hidden_row p q a form H)
    unfolding Later
    one-row (Kind w) e later = hidden w e later
    one-row (Number w) e later = shown w (number-told s t (p + a) good fine w (ap (λ x. number_in (value_of x)) e)) (ap after e) later
    one-row (Bytes w) e later = shown w (run-told s t (p + a) w (ap (λ x. bytes_in (value_of x)) e)) (ap after e) later
    one-row Index e later = hidden 1 (ap after e) later
    one-row (Reserved w) e later = hidden w e later
    one-row (Check w) e later = hidden w e later
    one-row Rest e later = later (ap after e) (omega arith)

  pub rows-told : (a b : ℕ) (l : List Row) → Gapless a b l → shown_rows look s p n l ≡ shown_rows see t p m l → p + a ≤ q → q < p + b → (byte s q ≡ byte t q) ⊎ HiddenIn p q l
  unfolding Later
  rows-told a b [] g e h k = absurd (omega (arith, g))
  rows-told a b (r ∷ rs) g e h k =
      let at : p + r.offset ≤ q = omega (arith, g.0) in
      one-row r.label r.offset (shown_rows look s p n rs) (shown_rows see t p m rs) (HiddenIn p q rs) at r.form e
      (λ more late. rows-told (a + width r.form) b rs g.1 more (omega (arith, g.0)) k)

-- ---- rows over the same bytes
-- a row that is shown by its bytes alone. (What follows the fields is shown by its place.)
abbrev pub ByBytes : Form → Type 0
ByBytes (Kind w) = Unit {0}
ByBytes (Number w) = Unit {0}
ByBytes (Bytes w) = Unit {0}
ByBytes Index = Unit {0}
ByBytes (Reserved w) = Unit {0}
ByBytes (Check w) = Unit {0}
ByBytes Rest = ⊥

-- rows that leave no byte out end where they say
rows-end : (a b : ℕ) (l : List Row) → Gapless a b l → a ≤ b
rows-end a b [] g = omega (arith, g)
rows-end a b (r ∷ rs) g = omega (arith, rows-end (a + width r.form) b rs g.1)

-- b bytes of s from p on and of t from q on
module _ (look : ℕ → Value) (s t : List ℕ) (p q n b : ℕ) (same : (i : ℕ) → i < b → byte s (p + i) ≡ byte t (q + i)) where
  run-at : (a w : ℕ) → a + w ≤ b → run s (p + a) w ≡ run t (q + a) w
  run-at a w h =
      tab-agree (λ i. byte s (p + a + i)) (λ i. byte t (q + a + i)) w
      (λ i k. ap (byte s) (omega arith) ∙ same (a + i) (omega arith) ∙ ap (byte t) (omega arith))

  row-same : (label : String) (a : ℕ) (form : Form) (l r : List Field) → a + width form ≤ b → ByBytes form → l ≡ r
      → shown_row look s p n label a form l ≡ shown_row look t q n label a form r
  row-same label a (Kind w) l r h o e = e
  row-same label a (Number w) l r h o e = ap₂ (λ (x : List ℕ) (more : List Field). (label, number (little x)) ∷ more) (run-at a w h) e
  row-same label a (Bytes w) l r h o e = ap₂ (λ (x : List ℕ) (more : List Field). (label, bytes x) ∷ more) (run-at a w h) e
  row-same label a Index l r h o e = ap₂ (λ (x : ℕ) (more : List Field). (label, look x) ∷ more) (same a (omega arith)) e
  row-same label a (Reserved w) l r h o e = e
  row-same label a (Check w) l r h o e = e
  row-same label a Rest l r h o e = absurd o

  pub rows-same : (a : ℕ) (l : List Row) → Gapless a b l → All (λ r. ByBytes r.form) l → shown_rows look s p n l ≡ shown_rows look t q n l
  rows-same a [] g o = refl
  rows-same a (r ∷ rs) g o =
      row-same r.label r.offset r.form (shown_rows look s p n rs) (shown_rows look t q n rs)
      (omega (arith, g.0, rows-end (a + width r.form) b rs g.1)) o.0 (rows-same (a + width r.form) rs g.1 o.1)
