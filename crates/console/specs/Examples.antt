-- What the definitions give on small examples, by computation. Assumes nothing.
use Rattle.std.specs.Prelude.{false, [], ◌∷◌, ◌≡◌, refl, Some, None}
use Rattle.std.specs.Fmt.{digits}
use Rattle.console.specs.Show.{place_text}
use Rattle.console.specs.Request.{before, first_of, semicolons_in, behind, part_of, value, decimal_from, number_at, number_in, two_digits, bytes_in, all_pairs, count_in, over}

-- "7;a;"
first-semicolon : first_of 0x3B (0x37 ∷ 0x3B ∷ 0x61 ∷ 0x3B ∷ []) ≡ 1
unfolding before
first-semicolon = refl

two-semicolons : semicolons_in (0x37 ∷ 0x3B ∷ 0x61 ∷ 0x3B ∷ []) ≡ 2
unfolding semicolons_in
two-semicolons = refl

-- its parts: "7", "a", nothing, and none
part-0 : part_of 0 (0x37 ∷ 0x3B ∷ 0x61 ∷ 0x3B ∷ []) ≡ 0x37 ∷ []
unfolding part_of behind before
part-0 = refl

part-1 : part_of 1 (0x37 ∷ 0x3B ∷ 0x61 ∷ 0x3B ∷ []) ≡ 0x61 ∷ []
unfolding part_of behind before
part-1 = refl

part-2 : part_of 2 (0x37 ∷ 0x3B ∷ 0x61 ∷ 0x3B ∷ []) ≡ []
unfolding part_of behind before
part-2 = refl

part-3 : part_of 3 (0x37 ∷ 0x3B ∷ 0x61 ∷ 0x3B ∷ []) ≡ []
unfolding part_of behind before
part-3 = refl

-- " 042 ", at most 42, and at most 41
number : number_in 42 (0x20 ∷ 0x30 ∷ 0x34 ∷ 0x32 ∷ 0x20 ∷ []) ≡ Some 42
unfolding number_in number_at decimal_from value before
number = refl

number-over : number_in 41 (0x20 ∷ 0x30 ∷ 0x34 ∷ 0x32 ∷ 0x20 ∷ []) ≡ None
unfolding number_in number_at decimal_from value before
number-over = refl

-- blanks alone; "4 2"; "4A"
number-none : number_in 99 (0x20 ∷ 0x20 ∷ []) ≡ None
unfolding number_in number_at decimal_from value before
number-none = refl

number-two : number_in 99 (0x34 ∷ 0x20 ∷ 0x32 ∷ []) ≡ None
unfolding number_in number_at decimal_from value before
number-two = refl

number-hexadecimal : number_in 99 (0x34 ∷ 0x41 ∷ []) ≡ None
unfolding number_in number_at decimal_from value before
number-hexadecimal = refl

-- " 0aF9 "
bytes : bytes_in (0x20 ∷ 0x30 ∷ 0x61 ∷ 0x46 ∷ 0x39 ∷ 0x20 ∷ []) ≡ 0x0A ∷ 0xF9 ∷ []
unfolding bytes_in two_digits value
bytes = refl

bytes-counted : count_in 2 (0x20 ∷ 0x30 ∷ 0x61 ∷ 0x46 ∷ 0x39 ∷ 0x20 ∷ []) ≡ Some 2
unfolding count_in all_pairs bytes_in two_digits value
bytes-counted = refl

-- no room for the second
bytes-over : count_in 1 (0x20 ∷ 0x30 ∷ 0x61 ∷ 0x46 ∷ 0x39 ∷ 0x20 ∷ []) ≡ None
unfolding count_in all_pairs bytes_in two_digits value
bytes-over = refl

-- "0a F": one byte is read, and the part is not good; "0 a": none is read
half : bytes_in (0x30 ∷ 0x61 ∷ 0x20 ∷ 0x46 ∷ []) ≡ 0x0A ∷ []
unfolding bytes_in two_digits value
half = refl

half-bad : all_pairs (0x30 ∷ 0x61 ∷ 0x20 ∷ 0x46 ∷ []) ≡ false
unfolding all_pairs two_digits value
half-bad = refl

split : bytes_in (0x30 ∷ 0x20 ∷ 0x61 ∷ []) ≡ []
unfolding bytes_in two_digits value
split = refl

-- bytes over the front of a longer buffer, and of a shorter one
over-longer : over (1 ∷ 2 ∷ []) (7 ∷ 8 ∷ 9 ∷ []) ≡ 1 ∷ 2 ∷ 9 ∷ []
unfolding over
over-longer = refl

over-shorter : over (1 ∷ 2 ∷ []) (7 ∷ []) ≡ 1 ∷ []
unfolding over
over-shorter = refl

-- "26 (1Ah)"
place : place_text 26 ≡ 0x32 ∷ 0x36 ∷ 0x20 ∷ 0x28 ∷ 0x31 ∷ 0x41 ∷ 0x68 ∷ 0x29 ∷ []
unfolding digits
place = refl
