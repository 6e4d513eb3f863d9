-- A major as two characters. Paper 01: "Major 00h to 63h is '00' to '99'; 80h to 99h is '0A' to '0Z'." Assumes nothing.
use Rattle.std.specs.Prelude.{ℕ, ◌+◌, ◌-◌, ◌/◌, ◌%◌, ◌≤◌, cond, List, [], ◌∷◌, ◌⊎◌, ◌≡◌, ltb}

-- the character of a digit, and the n-th letter, counted from 0
abbrev pub digit : ℕ → ℕ
digit n = 0x30 + n

abbrev pub capital : ℕ → ℕ
capital n = 0x41 + n

-- two digits; or '0' and a letter. (Rule 11 says which majors are in range.)
unfoldable pub major_text : ℕ → List ℕ
major_text m = cond (ltb m 0x80) (digit (m / 10) ∷ digit (m % 10) ∷ []) (digit 0 ∷ capital (m - 0x80) ∷ [])

-- the paper's sentence: a major in range and its two characters
abbrev pub MajorShown : ℕ → List ℕ → Type 0
MajorShown m x =
    ((m ≤ 0x63) × (x ≡ digit (m / 10) ∷ digit (m % 10) ∷ [])) ⊎ ((0x80 ≤ m) × (m ≤ 0x99) × (x ≡ digit 0 ∷ capital (m - 0x80) ∷ []))
