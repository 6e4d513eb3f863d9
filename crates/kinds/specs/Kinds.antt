-- A reader's list of known kinds: eight tiny tags and nine board structures, each on the list or not. Any subset is a valid list.
-- What is on a list, the full and the bare list, a list with one kind more, the list that a number's bits mark, and one list that contains another.
-- Assumes nothing.
use Rattle.std.specs.Prelude.{ℕ, ◌+◌, ◌*◌, ◌/◌, ◌%◌, ◌^◌, ◌≡◌, Bool, true, false, cond, ◌||◌, List, [], ◌∷◌, ◌++◌, eqb}
use Rattle.kinds.specs.declared.Kind.{Kind}
use Rattle.kinds.specs.declared.Kind.TheVariants.{Tag, Signature}
use Rattle.kinds.specs.declared.Kinds.{Kinds}
use Rattle.kinds.specs.Signatures.{acpi_tbl, fpga_nfo, gpio_dat, hd_codec, logo, mem_cnfg, mac_info, u_code, video}

-- a row of a table: the number of a kind, and its mark
abbrev pub Row : Type 0
Row = ℕ × Bool

-- the mark of x in a table; false where it has no row
unfoldable pub marked : ℕ → List Row → Bool
marked x [] = false
marked x (row ∷ rows) = cond (eqb x row.0) row.1 (marked x rows)

-- the eight tiny tags, with their marks
unfoldable pub tags : Kinds → List Row
tags k =
    (0x01, k.tag01)
    ∷ (0x10, k.tag10)
    ∷ (0x11, k.tag11)
    ∷ (0x60, k.tag60)
    ∷ (0x61, k.tag61)
    ∷ (0x62, k.tag62)
    ∷ (0x80, k.tag80)
    ∷ (0x81, k.tag81)
    ∷ []

-- the nine board structures, with their marks
unfoldable pub signatures : Kinds → List Row
signatures k =
    (acpi_tbl, k.acpitbl)
    ∷ (fpga_nfo, k.fpganfo)
    ∷ (gpio_dat, k.gpiodat)
    ∷ (hd_codec, k.hdcodec)
    ∷ (logo, k.logo)
    ∷ (mem_cnfg, k.memcnfg)
    ∷ (mac_info, k.macinfo)
    ∷ (u_code, k.ucode)
    ∷ (video, k.video)
    ∷ []

-- whether a kind is on the list
unfoldable pub listed : Kinds → Kind → Bool
unfolding marked tags signatures
listed k (Tag tag) = marked tag (tags k)
listed k (Signature signature) = marked signature (signatures k)

-- the list of those of the seventeen kinds that a test picks
unfoldable pub picked : (Kind → Bool) → Kinds
picked test =
    record {
      tag01 = test (Tag 0x01);
      tag10 = test (Tag 0x10);
      tag11 = test (Tag 0x11);
      tag60 = test (Tag 0x60);
      tag61 = test (Tag 0x61);
      tag62 = test (Tag 0x62);
      tag80 = test (Tag 0x80);
      tag81 = test (Tag 0x81);
      acpitbl = test (Signature acpi_tbl);
      fpganfo = test (Signature fpga_nfo);
      gpiodat = test (Signature gpio_dat);
      hdcodec = test (Signature hd_codec);
      logo = test (Signature logo);
      memcnfg = test (Signature mem_cnfg);
      macinfo = test (Signature mac_info);
      ucode = test (Signature u_code);
      video = test (Signature video);
    }

-- the list with every mark b
unfoldable pub all : Bool → Kinds
unfolding picked
all b = picked (λ kind. b)

-- the constant FULL: all seventeen kinds
abbrev pub full : Kinds
full = all true

-- the constant BARE: none of them
abbrev pub bare : Kinds
bare = all false

-- whether two kinds are the same
unfoldable pub same : Kind → Kind → Bool
same (Tag a) (Tag b) = eqb a b
same (Tag a) (Signature b) = false
same (Signature a) (Tag b) = false
same (Signature a) (Signature b) = eqb a b

-- the list with one kind more; the same list where that is none of the seventeen
unfoldable pub extended : Kinds → Kind → Kinds
unfolding picked listed same
extended k kind = picked (λ other. same kind other || listed k other)

-- whether bit i of n is set, bit 0 the lowest
abbrev pub bit : ℕ → ℕ → Bool
bit n i = eqb (n / 2 ^ i % 2) 1

-- the list of the kinds at the places that a test picks: places 0 to 7 the tags, 8 to 16 the board structures, in the paper's order
unfoldable pub picked_at : (ℕ → Bool) → Kinds
picked_at test =
    record {
      tag01 = test 0;
      tag10 = test 1;
      tag11 = test 2;
      tag60 = test 3;
      tag61 = test 4;
      tag62 = test 5;
      tag80 = test 6;
      tag81 = test 7;
      acpitbl = test 8;
      fpganfo = test 9;
      gpiodat = test 10;
      hdcodec = test 11;
      logo = test 12;
      memcnfg = test 13;
      macinfo = test 14;
      ucode = test 15;
      video = test 16;
    }

-- the list of the kinds whose bits are set in n; higher bits count for nothing
unfoldable pub from_bits : ℕ → Kinds
unfolding picked_at
from_bits n = picked_at (bit n)

-- every kind on the shorter list is on the longer one
pub record Contains (longer shorter : Kinds) : Type 0 where
  pub keeps : (kind : Kind) → listed shorter kind ≡ true → listed longer kind ≡ true

-- the number that the marks of a table spell in binary, the first lowest
unfoldable pub binary : List Row → ℕ
binary [] = 0
binary (row ∷ rows) = cond row.1 1 0 + 2 * binary rows

-- the number of a list: each mark at its place, as from_bits reads it
unfoldable pub bits_of : Kinds → ℕ
unfolding binary tags signatures
bits_of k = binary (tags k ++ signatures k)
