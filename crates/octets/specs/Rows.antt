-- Rows of a table of a layout paper, in its columns: an offset, what stands there with its length, and a label; and what is shown of the rows. Assumes nothing.
use Rattle.std.specs.Prelude.{ℕ, ◌+◌, ◌-◌, ◌≤◌, ◌<◌, List, [], ◌∷◌, ◌⊎◌, ◌≡◌}
use Prim.Native.String.{String}
use Rattle.octets.specs.Bytes.{byte, run, little}

-- what stands in a row
pub data Form : Type 0 where
  -- bytes that tell the kind: shown as the item's kind
  Kind : ℕ → Form
  -- a number of so many bytes
  Number : ℕ → Form
  -- so many bytes, shown as they are
  Bytes : ℕ → Form
  -- the number of a string: one byte, shown as what it refers to
  Index : Form
  -- "but reserved bytes"
  Reserved : ℕ → Form
  -- "Check numbers" are never shown
  Check : ℕ → Form
  -- "what follows the fields is shown by place and length"
  Rest : Form

pub record Row : Type 0 where
  pub label : String
  pub offset : ℕ
  pub form : Form

abbrev pub row : ℕ → Form → String → Row
row offset form label = record { label = label; offset = offset; form = form }

-- how many bytes a row has. (What follows the fields is no part of the table.)
abbrev pub width : Form → ℕ
width (Kind w) = w
width (Number w) = w
width (Bytes w) = w
width Index = 1
width (Reserved w) = w
width (Check w) = w
width Rest = 0

-- the rows leave no byte out, from offset a up to b
abbrev pub Gapless : ℕ → ℕ → List Row → Type 0
Gapless a b [] = a ≡ b
Gapless a b (r ∷ rs) = (r.offset ≡ a) × Gapless (a + width r.form) b rs

-- ---- what is shown
pub data Value : Type 0 where
  number : ℕ → Value
  bytes : List ℕ → Value
  -- place and length
  part : ℕ → ℕ → Value
  -- a string: its text, or that it cannot be told
  text : List ℕ → Value
  undecodable : Value

-- a field: its label, and what is shown under it
abbrev pub Field : Type 0
Field = String × Value

-- of the row of a table whose offsets count from p, with n bytes in all: the number, or the bytes, at its row. `look` is what an index refers to
abbrev pub shown_row : (ℕ → Value) → List ℕ → ℕ → ℕ → String → ℕ → Form → List Field → List Field
shown_row look s p n label offset (Kind w) more = more
shown_row look s p n label offset (Number w) more = (label, number (little (run s (p + offset) w))) ∷ more
shown_row look s p n label offset (Bytes w) more = (label, bytes (run s (p + offset) w)) ∷ more
shown_row look s p n label offset Index more = (label, look (byte s (p + offset))) ∷ more
shown_row look s p n label offset (Reserved w) more = more
shown_row look s p n label offset (Check w) more = more
shown_row look s p n label offset Rest more = (label, part (p + offset) (n - offset)) ∷ more

abbrev pub shown_rows : (ℕ → Value) → List ℕ → ℕ → ℕ → List Row → List Field
shown_rows look s p n [] = []
shown_rows look s p n (r ∷ rs) = shown_row look s p n r.label r.offset r.form (shown_rows look s p n rs)

-- ---- which bytes are not: those of the kind, reserved bytes, check numbers; and, apart from them, index bytes
abbrev pub InRow : ℕ → ℕ → ℕ → ℕ → Type 0
InRow p offset w q = (p + offset ≤ q) × (q < p + offset + w)

abbrev pub hidden_row : ℕ → ℕ → ℕ → Form → Type 0 → Type 0
hidden_row p q offset (Kind w) more = InRow p offset w q ⊎ more
hidden_row p q offset (Number w) more = more
hidden_row p q offset (Bytes w) more = more
hidden_row p q offset Index more = InRow p offset 1 q ⊎ more
hidden_row p q offset (Reserved w) more = InRow p offset w q ⊎ more
hidden_row p q offset (Check w) more = InRow p offset w q ⊎ more
hidden_row p q offset Rest more = more

abbrev pub HiddenIn : ℕ → ℕ → List Row → Type 0
HiddenIn p q [] = ⊥
HiddenIn p q (r ∷ rs) = hidden_row p q r.offset r.form (HiddenIn p q rs)
