-- How places, refusals and the bytes of quoted texts are written. Assumes nothing.
use Rattle.std.specs.Prelude.{ℕ, true, List, [], ◌∷◌, ◌++◌}
use Rattle.std.specs.Fmt.{decimal, digits}

-- a place: decimal, and hexadecimal in parentheses, as "26 (1Ah)"
abbrev pub place_text : ℕ → List ℕ
place_text n = decimal n ++ (0x20 ∷ 0x28 ∷ [] ++ (digits 16 true n ++ (0x68 ∷ 0x29 ∷ [])))

-- a refusal's number and place
abbrev pub numbers_text : ℕ → ℕ → List ℕ
numbers_text number place = decimal number ++ (0x20 ∷ [] ++ decimal place)
