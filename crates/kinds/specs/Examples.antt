-- Lists by their numbers, by computation. Assumes nothing.
use Rattle.std.specs.Prelude.{false, [], ◌∷◌, ◌≡◌, refl}
use Rattle.octets.specs.Bytes.{little}
use Rattle.kinds.specs.Kinds.{listed, all, full, bare, extended, from_bits}
use Rattle.kinds.specs.Signatures.{acpi_tbl, video}
use Rattle.kinds.specs.declared.Kind.TheVariants.{Tag, Signature}

all-seventeen : from_bits 0x1FFFF ≡ full
unfolding from_bits all
all-seventeen = refl

none : from_bits 0 ≡ bare
unfolding from_bits all
none = refl

second-bit : from_bits 0x2 ≡ extended bare (Tag 0x10)
unfolding from_bits extended all
second-bit = refl

ninth-bit : from_bits 0x100 ≡ extended bare (Signature acpi_tbl)
unfolding from_bits extended all
ninth-bit = refl

last-bit : from_bits 0x10000 ≡ extended bare (Signature video)
unfolding from_bits extended all
last-bit = refl

-- a tag that is none of the eight is on no list, and neither is `$Logo$` with spaces after it
no-tag : listed full (Tag 0x12) ≡ false
unfolding listed all
no-tag = refl

no-structure : listed full (Signature (little (0x24 ∷ 0x4C ∷ 0x6F ∷ 0x67 ∷ 0x6F ∷ 0x24 ∷ 0x20 ∷ 0x20 ∷ []))) ≡ false
unfolding listed all
no-structure = refl
