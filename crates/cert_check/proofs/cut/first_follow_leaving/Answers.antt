use Rattle.std.proofs.Common.{◌<◌, ◌+◌, Some, length, drop, ap, arith}
use Rattle.problem_model.specs.ShortList.{clocks_before, first_reading, nearest_reading, follow_bound, follow_bounds}
use Rattle.problem_model.proofs.Walking.{follows_more, follows_all}
use Rattle.cert_check.proofs.Cutting.{past, stop, none_left, none_found}
use Rattle.cert_check.proofs.Named.{there_is}
use Rattle.cert_check.proofs.cut.first_follow_leaving.Goals as goal

pub returns-in-Some : goal.returns-in-Some
returns-in-Some c = λ readings are.
    let p = c.args.p.now in
    let k = c.loop-later.later in
    let clocks = ap length c.clocks.ensures.value in
    let within : k < length p.clocks = omega (arith, clocks, c.loop-later-test.true) in
    let clock = there_is p.clocks k within in
    stop p c.args.inside.now (follow_bounds p.follows readings 0 p.clocks) (follow_bounds p.follows readings k (drop k p.clocks)) (c.loop-later.invariant readings are)
    (follow_bound (nearest_reading readings (clocks_before p.follows k k)) (first_reading readings k)) (follow_bounds p.follows readings (k + 1) (drop (k + 1) p.clocks))
    (follows_more p.follows readings p.clocks k clock.0 clock.1) (Some c.in-Some.bound) (λ none. absurd cc) (rw c.in-Some.is at (c.leaving_follow.ensures readings are))

pub loop-later-preserved : goal.loop-later-preserved
loop-later-preserved c = λ readings are.
    let p = c.args.p.now in
    let k = c.loop-later.later in
    let clocks = ap length c.clocks.ensures.value in
    let within : k < length p.clocks = omega (arith, clocks, c.loop-later-test.true) in
    let clock = there_is p.clocks k within in
    past p c.args.inside.now (follow_bounds p.follows readings 0 p.clocks) (follow_bounds p.follows readings k (drop k p.clocks)) (c.loop-later.invariant readings are)
    (follow_bound (nearest_reading readings (clocks_before p.follows k k)) (first_reading readings k)) (follow_bounds p.follows readings (k + 1) (drop (k + 1) p.clocks))
    (follows_more p.follows readings p.clocks k clock.0 clock.1) (let none = none_found c.leaving_follow.result c.in_default.not-Some in rw none at (c.leaving_follow.ensures readings are))

pub returns : goal.returns
returns c = λ readings are.
    let p = c.args.p.now in
    let k = c.loop-later.later in
    none_left p c.args.inside.now (follow_bounds p.follows readings 0 p.clocks) (follow_bounds p.follows readings k (drop k p.clocks)) (c.loop-later.invariant readings are)
    (follows_all p.follows readings p.clocks k (let same = ap length c.clocks.ensures.value in omega (arith, same, c.loop-later-test.false)))
