-- `window` meets its contract, by how many bytes are left from the place on. Assumes nothing.
use Rattle.std.proofs.Math.Seq.{take-length}
use Rattle.std.proofs.Common.{◌≡◌, ℕ, ◌+◌, ◌-◌, length, take, drop, sym, ◌∙◌, ap, arith, length-drop, take_all}
use Rattle.octets.proofs.laws.Parts.{part-past}
use Rattle.board_layout.proofs.window.Goals as goal

pub returns-then-image-place-ge16 : goal.returns-then-image-place-ge16
returns-then-image-place-ge16 c = let a = c.args in
    let sixteen : a.place + 16 - a.place ≡ 16 = omega arith in
    ap (λ (n : ℕ). take n (drop a.place a.image.now)) sixteen

pub returns-then-place-image : goal.returns-then-place-image
returns-then-place-image c = let a = c.args in
    let rest = drop a.place a.image.now in
    let few : length rest ≡ length a.image.now - a.place = length-drop a.place a.image.now in
    ap (λ (n : ℕ). take n rest) (sym few) ∙ take-length rest ∙ sym (take_all 16 rest (omega (arith, few, c.if-image-place-ge16.false)))

pub returns : goal.returns
returns c = let a = c.args in sym (part-past 16 a.place a.image.now c.if-place-image.false)
