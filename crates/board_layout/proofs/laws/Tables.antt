-- The tables leave no byte out, from the head up to the end of the row Reserved, and their hidden rows are Signature, Reserved (where Shapes has it) and Crc32.
-- By computation, table by table. Assumes nothing.
use Rattle.std.specs.Prelude.{ℕ, ◌+◌, ◌≤◌, ◌<◌, ◌⊎◌, ◌≡◌, refl}
use Rattle.std.proofs.Common.{inl, inr, arith}
use Rattle.board_layout.specs.Places.{head_size, Crc32}
use Rattle.board_layout.specs.Shapes.{reserved_from, reserved_to}
use Rattle.board_layout.specs.Tables.{table}
use Rattle.board_layout.specs.declared.Shape.{Shape}
use Rattle.board_layout.specs.declared.Shape.TheVariants.{Eeprom, EeprMap, BrdInfo, PromSig, AcpiTbl, FpgaNfo, GpioDat, HdCodec, Logo, MemCnfg, MacInfo, UCode, Video, Other}
use Rattle.octets.specs.Rows.{Gapless, InRow, HiddenIn}

-- no byte is left out
pub gapless : (a : Shape) → Gapless 0 (reserved_to a) (table a)
gapless Eeprom = (refl, (refl, (refl, (refl, (refl, (refl, (refl, (refl, (refl, refl)))))))))
gapless EeprMap = (refl, (refl, (refl, (refl, (refl, (refl, (refl, (refl, (refl, (refl, (refl, (refl, (refl, refl)))))))))))))
gapless BrdInfo = (refl, (refl, (refl, (refl, (refl, (refl, (refl, (refl, (refl, (refl, (refl, (refl, refl))))))))))))
gapless PromSig = (refl, (refl, (refl, (refl, (refl, (refl, (refl, refl)))))))
gapless AcpiTbl = (refl, (refl, (refl, (refl, (refl, (refl, refl))))))
gapless FpgaNfo = (refl, (refl, (refl, (refl, (refl, (refl, (refl, (refl, (refl, refl)))))))))
gapless GpioDat = (refl, (refl, (refl, (refl, (refl, (refl, refl))))))
gapless HdCodec = (refl, (refl, (refl, (refl, (refl, (refl, refl))))))
gapless Logo = (refl, (refl, (refl, (refl, (refl, (refl, refl))))))
gapless MemCnfg = (refl, (refl, (refl, (refl, (refl, (refl, (refl, refl)))))))
gapless MacInfo = (refl, (refl, (refl, (refl, (refl, (refl, (refl, (refl, (refl, refl)))))))))
gapless UCode = (refl, (refl, (refl, (refl, (refl, (refl, refl))))))
gapless Video = (refl, (refl, (refl, (refl, (refl, (refl, refl))))))
gapless Other = (refl, (refl, (refl, (refl, refl))))

-- what the hidden rows are, by structure
abbrev pub Hidden : ℕ → ℕ → Shape → Type 0
Hidden p q a = (q < p + 8) ⊎ (((p + reserved_from a ≤ q) × (q < p + reserved_to a)) ⊎ ((a ≡ Eeprom) × InRow p Crc32 4 q))

-- the row Reserved, by its ends
reserved : (p q from w to : ℕ) → from + w ≡ to → InRow p from w q → (p + from ≤ q) × (q < p + to)
reserved p q from w to e h = (h.0, omega (arith, h.1))

-- Signature and Reserved
rows : {C : Type 0} (p q from w to : ℕ) → from + w ≡ to → InRow p 0 8 q ⊎ (InRow p from w q ⊎ ⊥) → (q < p + 8) ⊎ (((p + from ≤ q) × (q < p + to)) ⊎ C)
rows p q from w to e (inl h) = inl (omega (arith, h.1))
rows p q from w to e (inr (inl h)) = inr (inl (reserved p q from w to e h))
rows p q from w to e (inr (inr h)) = absurd h

pub hidden : (p q : ℕ) (a : Shape) → HiddenIn p q (table a) → Hidden p q a
hidden p q Eeprom (inl h) = inl (omega (arith, h.1))
hidden p q Eeprom (inr (inl h)) = inr (inr (refl, h))
hidden p q Eeprom (inr (inr (inl h))) = inr (inl (reserved p q 0x20 0x10 0x30 refl h))
hidden p q Eeprom (inr (inr (inr h))) = absurd h
hidden p q EeprMap h = rows p q 0x2D 0x03 0x30 refl h
hidden p q BrdInfo h = rows p q 0x4D 0x13 0x60 refl h
hidden p q PromSig h = rows p q 0x12 0x0E 0x20 refl h
hidden p q AcpiTbl h = rows p q 0x10 0x10 0x20 refl h
hidden p q FpgaNfo h = rows p q 0x13 0x0D 0x20 refl h
hidden p q GpioDat h = rows p q 0x10 0x10 0x20 refl h
hidden p q HdCodec h = rows p q 0x10 0x10 0x20 refl h
hidden p q Logo h = rows p q 0x10 0x10 0x20 refl h
hidden p q MemCnfg h = rows p q 0x12 0x0E 0x20 refl h
hidden p q MacInfo h = rows p q 0x20 0x10 0x30 refl h
hidden p q UCode h = rows p q 0x10 0x10 0x20 refl h
hidden p q Video h = rows p q 0x10 0x10 0x20 refl h
hidden p q Other (inl h) = inl (omega (arith, h.1))
hidden p q Other (inr h) = absurd h

-- where the row Reserved of a table starts and ends
pub reserved-row : (a : Shape) → (head_size ≤ reserved_from a) × (reserved_from a ≤ reserved_to a)
reserved-row Eeprom = (omega arith, omega arith)
reserved-row EeprMap = (omega arith, omega arith)
reserved-row BrdInfo = (omega arith, omega arith)
reserved-row PromSig = (omega arith, omega arith)
reserved-row AcpiTbl = (omega arith, omega arith)
reserved-row FpgaNfo = (omega arith, omega arith)
reserved-row GpioDat = (omega arith, omega arith)
reserved-row HdCodec = (omega arith, omega arith)
reserved-row Logo = (omega arith, omega arith)
reserved-row MemCnfg = (omega arith, omega arith)
reserved-row MacInfo = (omega arith, omega arith)
reserved-row UCode = (omega arith, omega arith)
reserved-row Video = (omega arith, omega arith)
reserved-row Other = (omega arith, omega arith)
