use Rattle.std.proofs.Common.{◌≤◌, ◌^◌, arith}
use Rattle.std.proofs.Math.Nat.{pow-le-pow_right}
use Rattle.atto.proofs.text.nine_digits.Goals as goal

pub overflow_mul-n : goal.overflow_mul-n
overflow_mul-n c =
    let bound : 10 ^ c.loop-c.c-index ≤ 10 ^ 8 = pow-le-pow_right (omega arith) {j = 8} (omega (arith, c.loop-c-test.true, c.requires.nine)) in
    omega (arith, bound, c.loop-c.invariant.1)
