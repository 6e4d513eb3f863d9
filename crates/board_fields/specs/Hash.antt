-- Rule 29: "HashType not 0 to 5, signed flag on a type other than 1 to 3, Length not 20h + hash size (signed: less than that)", at HashType.
-- Layout paper 000: the types with their hash sizes, and the flag 8000h. Assumes nothing.
use Rattle.std.specs.Prelude.{ℕ, ◌+◌, ◌%◌, Bool, not, cond, ◌&&◌, List, [], ◌∷◌, eqb, ltb, leb, get_or}
use Rattle.board_layout.specs.Layout.{length_at}
use Rattle.board_layout.specs.Places.{HashType, EepromSig}
use Rattle.chain.specs.First.{checks, when}
use Rattle.chain.specs.Found.{Found}
use Rattle.octets.specs.Bytes.{le16}

-- None, MD5, SHA-1, SHA-256, SHA-384, SHA-512
unfoldable pub hash_size : ℕ → ℕ
hash_size type = get_or (0x00 ∷ 0x10 ∷ 0x14 ∷ 0x20 ∷ 0x30 ∷ 0x40 ∷ []) type 0

-- 8000h: "flag to indicate this is a signed hash"; the other bits are the type
abbrev pub is_signed : ℕ → Bool
is_signed h = leb 0x8000 h

abbrev pub hash_type : ℕ → ℕ
hash_type h = h % 0x8000

-- "[signable]"
abbrev pub is_signable : ℕ → Bool
is_signable type = leb 1 type && leb type 3

-- whether a Length fits a HashType
abbrev pub hash_length_fits : ℕ → ℕ → Bool
hash_length_fits h n =
    cond (is_signed h) (leb (EepromSig + hash_size (hash_type h)) n) (eqb n (EepromSig + hash_size (hash_type h)))

-- HashType h and Length n of a structure whose HashType lies at `at`
unfoldable pub bad_hash_of : ℕ → ℕ → ℕ → Found
bad_hash_of h n at =
    checks
    (when (ltb 5 (hash_type h)) at
    ∷ when (is_signed h && not (is_signable (hash_type h))) at
    ∷ when (not (hash_length_fits h n)) at
    ∷ [])

unfoldable pub bad_hash : List ℕ → ℕ → Found
bad_hash s p = bad_hash_of (le16 s (p + HashType)) (length_at s p) (p + HashType)
