use Rattle.std.proofs.Common.{◌≤◌, ◌^◌, arith}
use Rattle.std.proofs.Math.Nat.{pow-le-pow_right}
use Rattle.event_log.proofs.Digits.{digit_fits, digit_more}
use Rattle.event_log.proofs.fields.digits_number.Goals as goal

pub overflow_mul-n : goal.overflow_mul-n
overflow_mul-n c =
    let bound : 10 ^ c.loop-c.c-index ≤ 10 ^ 18 = pow-le-pow_right (omega arith) {j = 18} (omega (arith, c.loop-c-test.true, c.requires.short)) in
    omega (arith, bound, c.loop-c.invariant.1)

pub overflow_add-n : goal.overflow_add-n
overflow_add-n c =
    let fits = digit_fits c.args.text.now c.loop-c.c-index c.loop-c.n c.loop-c-test.true c.requires.short c.requires.digits c.loop-c.invariant.1 in
    omega (arith, c.from.ensures, fits)

pub loop-c-preserved : goal.loop-c-preserved
loop-c-preserved c =
    let more = digit_more c.args.text.now c.loop-c.c-index c.loop-c.n c.loop-c-test.true c.requires.digits c.loop-c.invariant.0 c.loop-c.invariant.1 in
    rw c.from.ensures (more.0, more.1, omega (arith, c.loop-c-test.true, c.requires.short))
