-- What C gets of an answer: one 64-bit number. The refusal's number is in bits 32 to 39 (0: none), which image in bit 40, and in bits 0 to 31 the count, the
-- length, or for a refusal its place. Assumes nothing.
use Rattle.std.specs.Prelude.{ℕ, ◌+◌, ◌*◌, ◌/◌, ◌%◌, cond, eqb}
use Rattle.choice.specs.Choice.{Chosen}
use Rattle.verdict.specs.Said.{Said, says, refused}

-- a count or a length; or a refusal
abbrev pub number : Said ℕ → ℕ
number (says n) = n % 0x100000000
number (refused n p) = n * 0x100000000 + p % 0x100000000

-- which image, 0 for firmware and 1 for EEPROM, and its length; or a refusal
abbrev pub chosen_number : Said Chosen → ℕ
chosen_number (says c) = c.which * 0x10000000000 + number (says c.length)
chosen_number (refused n p) = number (refused n p)

-- an answer as a number, by what it says, and what the lent buffer then holds
abbrev pub numbered : {A B : Type 0} → (A → Said ℕ) → A × B → ℕ × B
numbered said x = (number (said x.0), x.1)

-- what C takes out of a number (chip/chip.h: chip_refusal; chip_value and chip_place; chip_is_eeprom)
abbrev pub refusal_bits : ℕ → ℕ
refusal_bits a = a / 0x100000000 % 0x100

abbrev pub low_bits : ℕ → ℕ
low_bits a = a % 0x100000000

abbrev pub eeprom_bit : ℕ → ℕ
eeprom_bit a = a / 0x10000000000 % 2

-- and what it then has: a count or a length, or a refusal
abbrev pub taken : ℕ → Said ℕ
taken a = cond (eqb (refusal_bits a) 0) (says (low_bits a)) (refused (refusal_bits a) (low_bits a))

-- or the image that is chosen
abbrev pub taken_choice : ℕ → Said Chosen
taken_choice a =
    cond
    (eqb (refusal_bits a) 0)
    (says (record { which = eeprom_bit a; length = low_bits a }))
    (refused (refusal_bits a) (low_bits a))
