use Rattle.std.proofs.Common.{◌<◌, ◌+◌, length, drop, ap, arith}
use Rattle.problem_model.specs.ShortList.{clocks_before, first_reading, nearest_reading, follow_bound, follow_bounds}
use Rattle.problem_model.proofs.Walking.{follows_more, follows_all}
use Rattle.cert_check.specs.Widened.{widened}
use Rattle.cert_check.proofs.Loops.{on, out, done}
use Rattle.cert_check.proofs.Named.{there_is}
use Rattle.cert_check.proofs.verdict.judge_follows.Goals as goal

pub returns-in_default-clause-verdict : goal.returns-in_default-clause-verdict
returns-in_default-clause-verdict c = λ x readings times.
    let p = c.args.p.now in
    let w = c.args.what in
    let e = c.args.extra in
    let k = c.loop-later.later in
    let clocks = ap length c.clocks.ensures.value in
    let within : k < length p.clocks = omega (arith, clocks, c.loop-later-test.true) in
    let clock = there_is p.clocks k within in
    out (widened w p e) x (follow_bounds p.follows readings 0 p.clocks) (follow_bounds p.follows readings k (drop k p.clocks)) (c.loop-later.invariant x readings times)
    (follow_bound (nearest_reading readings (clocks_before p.follows k k)) (first_reading readings k)) (follow_bounds p.follows readings (k + 1) (drop (k + 1) p.clocks))
    (follows_more p.follows readings p.clocks k clock.0 clock.1) c.judge_follow.result c.in_default.not-Obeys (c.judge_follow.ensures.verdict x readings times)

pub loop-later-preserved : goal.loop-later-preserved
loop-later-preserved c = λ x readings times.
    let p = c.args.p.now in
    let w = c.args.what in
    let e = c.args.extra in
    let k = c.loop-later.later in
    let clocks = ap length c.clocks.ensures.value in
    let within : k < length p.clocks = omega (arith, clocks, c.loop-later-test.true) in
    let clock = there_is p.clocks k within in
    on (widened w p e) x (follow_bounds p.follows readings 0 p.clocks) (follow_bounds p.follows readings k (drop k p.clocks)) (c.loop-later.invariant x readings times)
    (follow_bound (nearest_reading readings (clocks_before p.follows k k)) (first_reading readings k)) (follow_bounds p.follows readings (k + 1) (drop (k + 1) p.clocks))
    (follows_more p.follows readings p.clocks k clock.0 clock.1) (rw c.in-Obeys.is at (c.judge_follow.ensures.verdict x readings times))

pub returns-clause-verdict : goal.returns-clause-verdict
returns-clause-verdict c = λ x readings times.
    let p = c.args.p.now in
    let w = c.args.what in
    let e = c.args.extra in
    let k = c.loop-later.later in
    done (widened w p e) x (follow_bounds p.follows readings 0 p.clocks) (follow_bounds p.follows readings k (drop k p.clocks)) (c.loop-later.invariant x readings times)
    (follows_all p.follows readings p.clocks k (let same = ap length c.clocks.ensures.value in omega (arith, same, c.loop-later-test.false)))
