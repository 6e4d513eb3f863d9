-- `string_at` meets its contract. Past the pool the definition gives one byte (`string-past`). Assumes nothing.
use Rattle.std.proofs.Common.{◌≡◌, ℕ, ◌-◌, ap, arith}
use Rattle.tiny_layout.specs.Strings.{string_end}
use Rattle.tiny_layout.proofs.laws.Strings.{string-grows, string-past}
use Rattle.tiny_layout.proofs.string_at.Goals as goal

pub overflow_sub-result : goal.overflow_sub-result
overflow_sub-result c = let a = c.args in omega (arith, c.string_end.ensures, string-grows a.image.now a.to a.at)

pub returns : goal.returns
returns c = let a = c.args in
    let e : 1 ≡ string_end a.image.now a.to a.at - a.at = omega (arith, string-past a.image.now a.to a.at c.if-at-to.false) in
    ap (λ (n : ℕ). record { place = a.at; length = n }) e
