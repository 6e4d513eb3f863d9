-- `times` meets its contract: a product of two numbers of 32 bits has no more than 64. Assumes nothing.
use Rattle.std.proofs.Common.{◌≤◌, arith, mul-le-mul}
use Rattle.board_records.proofs.times.Goals as goal

pub overflow_mul-result : goal.overflow_mul-result
overflow_mul-result c = let a = c.args.a in
    let b = c.args.b in
    let small : a ≤ 0xFFFF_FFFF = omega arith in
    let few : b ≤ 0xFFFF_FFFF = omega arith in
    omega (arith, mul-le-mul small few)
