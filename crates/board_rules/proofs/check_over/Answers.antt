-- `check_over` meets its contract: of an image that has no more than n bytes, the first n are all of it. Assumes nothing.
use Rattle.std.proofs.Common.{◌≡◌, ℕ, ◌-◌, List, take, sym, ◌∙◌, ap, arith, take_all}
use Rattle.board_rules.specs.Rules.{check_over}
use Rattle.crc.specs.Blank.{blank}
use Rattle.crc.specs.Crc32.{crc32}
use Rattle.board_rules.proofs.check_over.Goals as goal

pub returns-then-image-n : goal.returns-then-image-n
unfolding check_over
returns-then-image-n c = let a = c.args in
    c.crc32_field_as_zero.ensures ∙ ap (λ (l : List ℕ). crc32 (blank 0x14 4 l)) (sym (take_all a.n a.image.now c.if-image-n.true))

pub returns : goal.returns
unfolding check_over
returns c = let a = c.args in
    let z : a.n - 0 ≡ a.n = omega arith in
    c.crc32_field_as_zero-2.ensures ∙ ap (λ (n : ℕ). crc32 (blank 0x14 4 (take n a.image.now))) z
