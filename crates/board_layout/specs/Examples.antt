-- What the definitions give on small examples, by computation: rounding, the walk, tables by signature and VerMajor, records. Assumes nothing.
use Rattle.std.specs.Prelude.{ℕ, ◌+◌, ◌/◌, ◌%◌, true, false, List, [], ◌∷◌, ◌++◌, map, ◌≡◌, refl, replicate}
use Rattle.board_layout.specs.Layout.{end_at, round16, next, structures, map_at, board_at, later_at, records}
use Rattle.board_layout.specs.Shapes.{listed_shape, shape_of, knows}
use Rattle.board_layout.specs.declared.Records.TheVariants.{Gpio}
use Rattle.board_layout.specs.declared.Shape.TheVariants.{Eeprom, PromSig, Logo, MacInfo, Other}
use Rattle.chain.specs.Chain.{visit, chain}
use Rattle.chain.specs.Fill.{tab}
use Rattle.kinds.specs.Kinds.{all, full, bare}
use Rattle.kinds.specs.Signatures.{eeprom, prom_sig, logo, mac_info}
use Rattle.octets.specs.Bytes.{le32}

rounded : map round16 (0x30 ∷ 0x31 ∷ 0x3F ∷ 0x40 ∷ []) ≡ 0x30 ∷ 0x40 ∷ 0x40 ∷ 0x40 ∷ []
unfolding round16
rounded = refl

-- ---- a structure of a Length, '$' and zeros, with zeros up to the boundary of 16
abbrev zeros : ℕ → List ℕ
zeros n = replicate n 0

abbrev head : ℕ → List ℕ
head length = 0x24 ∷ zeros 11 ++ (length % 256 ∷ length / 256 % 256 ∷ 0 ∷ 0 ∷ [])

-- four structures of Lengths 20h, 11h, 10h and 15h: the second and the last one end off a boundary, and StructLen is the last one's end
abbrev four : List ℕ
four = head 0x20 ++ (0x65 ∷ 0 ∷ 0 ∷ 0 ∷ zeros 12) ++ head 0x11 ++ (7 ∷ zeros 15) ++ head 0x10 ++ head 0x15 ++ (1 ∷ 2 ∷ 3 ∷ 4 ∷ 5 ∷ [])

walked : structures four ≡ 0x00 ∷ 0x20 ∷ 0x40 ∷ 0x50 ∷ []
unfolding le32 tab next round16 chain visit
walked = refl

ends : map (end_at four) (structures four) ≡ 0x20 ∷ 0x31 ∷ 0x50 ∷ 0x65 ∷ []
unfolding le32 tab end_at next round16 chain visit
ends = refl

second-third-later : map_at four ∷ board_at four ∷ later_at four ∷ [] ≡ 0x20 ∷ 0x40 ∷ 0x50 ∷ []
unfolding le32 tab next round16 map_at board_at later_at
second-third-later = refl

-- ---- tables: the four by their signature, the others only with VerMajor 1; another signature has none
tables : shape_of eeprom 7 ∷ shape_of prom_sig 2 ∷ shape_of logo 1 ∷ shape_of logo 0 ∷ shape_of mac_info 1 ∷ shape_of mac_info 2 ∷ shape_of (logo + 1) 1 ∷ []
    ≡ Eeprom ∷ PromSig ∷ Logo ∷ Other ∷ MacInfo ∷ Other ∷ Other ∷ []
unfolding shape_of listed_shape
tables = refl

known : knows full Logo ∷ knows bare Logo ∷ knows bare PromSig ∷ knows full Other ∷ [] ≡ true ∷ false ∷ true ∷ false ∷ []
unfolding all
known = refl

-- ---- GPIO data of two records, 30h bytes each, from 20h on
two-records : records Gpio (head 0x80) 0 ≡ 0x20 ∷ 0x50 ∷ []
unfolding le32 tab records end_at chain visit
two-records = refl
