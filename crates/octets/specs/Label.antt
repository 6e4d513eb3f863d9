-- Text, and labels. Paper 01: "A label is text (empty allowed) of characters 20h to 7Eh other than '$', then '$', then zeros; or sixteen such characters."
-- Its bad byte is the first that no good label with the same beginning has. Assumes nothing.
use Rattle.std.specs.Prelude.{ℕ, ◌+◌, ◌≤◌, ◌<◌, Bool, true, not, ◌&&◌, List, ◌⊎◌, ◌≡◌, eqb, leb, length, Some, None}
use Rattle.chain.specs.Chain.{range}
use Rattle.chain.specs.First.{first, when, or_else}
use Rattle.chain.specs.Found.{Found}
use Rattle.octets.specs.Bytes.{byte, run}
use Rattle.octets.specs.Runs.{nonzero}

-- "Characters are 20h to 7Eh."
unfoldable pub is_text : ℕ → Bool
is_text b = leb 0x20 b && leb b 0x7E

-- '$'
abbrev pub dollar : ℕ
dollar = 0x24

-- a character of a label's text
unfoldable pub is_label_text : ℕ → Bool
is_label_text b = is_text b && not (eqb b dollar)

-- whether the byte at offset i of the label at p is no such character
abbrev pub no_text : List ℕ → ℕ → ℕ → Bool
no_text s p i = not (is_label_text (byte s (p + i)))

-- the offset at which the text ends, if it does before the sixteen bytes do
unfoldable pub text_end : List ℕ → ℕ → Found
text_end s p = first (λ i. when (no_text s p i) i) (range 0 16)

-- from there on: '$', and zeros
abbrev pub after_text : List ℕ → ℕ → Found → Found
after_text s p (Some i) = or_else (when (not (eqb (byte s (p + i)) dollar)) (p + i)) (nonzero s p (i + 1) 16)
after_text s p None = None

-- the bad byte of the label at p
unfoldable pub bad_label : List ℕ → ℕ → Found
bad_label s p = after_text s p (text_end s p)

-- ---- The paper's sentence of sixteen bytes l. `laws/LabelGood` and `laws/LabelBad` prove that the bad byte is the first that no good label with the same beginning has.

-- '$' after `text` characters, and then zeros
pub record Ended (l : List ℕ) (text : ℕ) : Type 0 where
  pub room : text < 16
  pub mark : byte l text ≡ dollar
  pub zeros : (i : ℕ) → text < i → i < 16 → byte l i ≡ 0

-- `text` characters, and these are all sixteen, or the label ends after them
pub record GoodLabel (l : List ℕ) : Type 0 where
  pub sixteen : length l ≡ 16
  pub text : ℕ
  pub characters : (i : ℕ) → i < text → is_label_text (byte l i) ≡ true
  pub ends : (text ≡ 16) ⊎ Ended l text

-- byte i of l is the first that no good label with the same beginning has
pub record BadByte (l : List ℕ) (i : ℕ) : Type 0 where
  pub within : i < 16
  -- with the bytes before it a good label begins
  pub other : List ℕ
  pub good : GoodLabel other
  pub beginning : (j : ℕ) → j < i → byte other j ≡ byte l j
  -- with them and it none does
  pub none : (m : List ℕ) → GoodLabel m → ((j : ℕ) → j ≤ i → byte m j ≡ byte l j) → ⊥

-- the label at p: sixteen bytes; and q is the place of its bad byte
abbrev pub label : List ℕ → ℕ → List ℕ
label s p = run s p 16

pub record BadAt (s : List ℕ) (p q : ℕ) : Type 0 where
  pub offset : ℕ
  pub stands : p + offset ≡ q
  pub bad : BadByte (label s p) offset
