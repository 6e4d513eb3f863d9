-- The parts of a request, as docs/WRITING.md has them: a line with semicolons (3Bh) between them; decimal numbers, and bytes in hexadecimal.
-- Assumes nothing.
use Rattle.std.specs.Prelude.{ℕ, zero, suc, ◌+◌, ◌-◌, ◌*◌, Bool, true, false, cond, not, ◌&&◌, List, [], ◌∷◌, eqb, leb, ltb, length, take, drop, Option, Some, None}

-- how many elements come before the first that passes the test; all of them where none does
unfoldable pub before : (ℕ → Bool) → List ℕ → ℕ
before test [] = 0
before test (c ∷ cs) = let more = suc (before test cs) in cond (test c) 0 more

-- how many come before the first b
abbrev pub first_of : ℕ → List ℕ → ℕ
first_of b l = before (λ c. eqb c b) l

-- how many are semicolons
unfoldable pub semicolons_in : List ℕ → ℕ
semicolons_in [] = 0
semicolons_in (c ∷ cs) = let rest = semicolons_in cs in cond (eqb c 0x3B) (suc rest) rest

-- what is behind n semicolons; nothing where there are not so many
unfoldable pub behind : ℕ → List ℕ → List ℕ
behind zero l = l
behind (suc n) [] = []
behind (suc n) (c ∷ cs) =
    let one = behind n cs in
    let none = behind (suc n) cs in
    cond (eqb c 0x3B) one none

-- part n of a line, counted from 0: what is behind n semicolons, up to the next one
unfoldable pub part_of : ℕ → List ℕ → List ℕ
part_of n l = let rest = behind n l in take (first_of 0x3B rest) rest

-- a is at most c, and c at most b
abbrev pub within : ℕ → ℕ → ℕ → Bool
within a b c = leb a c && leb c b

-- what a digit stands for: '0' to '9', 'A' to 'F', 'a' to 'f'; 16 for any other character
unfoldable pub value : ℕ → ℕ
value c =
    cond (within 0x30 0x39 c) (c - 0x30) (cond (within 0x41 0x46 c) (c - 0x41 + 10) (cond (within 0x61 0x66 c) (c - 0x61 + 10) 16))

-- a number that is given or none: of a part that can be read, the number that it is or how many bytes it gives
abbrev pub given : Bool → ℕ → Option ℕ
given true n = Some n
given false n = None

-- what a digit stands for, given for a digit alone
abbrev pub digit_value : ℕ → Option ℕ
digit_value c = given (ltb (value c) 16) (value c)

-- whether a character is no blank, and no decimal digit
abbrev pub no_blank : ℕ → Bool
no_blank c = not (eqb c 0x20)

abbrev pub no_digit : ℕ → Bool
no_digit c = ltb 9 (value c)

-- how many blanks are at the front
abbrev pub blanks : List ℕ → ℕ
blanks l = before no_blank l

-- how many decimal digits are at the front
abbrev pub digits : List ℕ → ℕ
digits l = before no_digit l

-- the number that decimal digits spell, behind digits that spell n
unfoldable pub decimal_from : ℕ → List ℕ → ℕ
decimal_from n [] = n
decimal_from n (c ∷ cs) = decimal_from (n * 10 + value c) cs

-- the number that decimal digits spell, if it is at most `most`
abbrev pub decimal_in : ℕ → List ℕ → Option ℕ
decimal_in most l = given (leb (decimal_from 0 l) most) (decimal_from 0 l)

-- a text that begins with its digits: there is one, only blanks are behind them, and the number is at most `most`
unfoldable pub number_at : ℕ → List ℕ → Option ℕ
number_at most text =
    let n = digits text in
    let rest = drop n text in
    cond (ltb 0 n && eqb (blanks rest) (length rest)) (decimal_in most (take n text)) None

-- a decimal number, at most `most`, with blanks around it
unfoldable pub number_in : ℕ → List ℕ → Option ℕ
number_in most part = number_at most (drop (blanks part) part)

-- the byte of two digits; 256 if one is no digit
unfoldable pub two_digits : ℕ → ℕ → ℕ
two_digits c d = cond (ltb 15 (value c)) 256 (cond (ltb 15 (value d)) 256 (value c * 16 + value d))

-- the same, given for two digits alone
abbrev pub pair_value : ℕ → ℕ → Option ℕ
pair_value c d = given (ltb (two_digits c d) 256) (two_digits c d)

-- the bytes of pairs of digits, blanks left out, up to the end or to what is no pair
unfoldable pub bytes_in : List ℕ → List ℕ
bytes_in [] = []
bytes_in (c ∷ []) = []
bytes_in (c ∷ (d ∷ cs)) =
    let next = bytes_in (d ∷ cs) in
    let more = bytes_in cs in
    cond (eqb c 0x20) next (cond (ltb (two_digits c d) 256) (two_digits c d ∷ more) [])

-- whether there is nothing but pairs of digits and blanks
unfoldable pub all_pairs : List ℕ → Bool
all_pairs [] = true
all_pairs (c ∷ []) = eqb c 0x20
all_pairs (c ∷ (d ∷ cs)) =
    let next = all_pairs (d ∷ cs) in
    let more = all_pairs cs in
    cond (eqb c 0x20) next (ltb (two_digits c d) 256 && more)

-- how many bytes a part gives: nothing else is in it, and there is room for them
unfoldable pub count_in : ℕ → List ℕ → Option ℕ
count_in room part = let n = length (bytes_in part) in given (all_pairs part && leb n room) n

-- a buffer with bytes put over its front, as far as there is room; the rest as it was
unfoldable pub over : List ℕ → List ℕ → List ℕ
over [] buffer = buffer
over (b ∷ bs) [] = []
over (b ∷ bs) (x ∷ xs) = b ∷ over bs xs
