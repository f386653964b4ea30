use Rattle.std.proofs.Common.{None}
use Rattle.problem.specs.Written.{ClockIs}
use Rattle.problem.proofs.Growing.{absent, at_none}
use Rattle.problem.proofs.lines.take_clock.Goals as goal

pub returns-in-Some-clock_place-clause-taken : goal.returns-in-Some-clock_place-clause-taken
returns-in-Some-clock_place-clause-taken c = λ version s l e t is fits. at_none (λ x. x.name) c.args.items.now.clocks c.args.name.now fits c.in-Some-clock_place._place c.in-Some-clock_place.ensures.some

pub returns-in-None-clause-taken : goal.returns-in-None-clause-taken
returns-in-None-clause-taken c = λ version s l e t is.
    let out : ClockIs None c.args.name.now s l e t = rw c.in_default.is at is in
    (absent (λ x. x.name) c.args.items.now.clocks c.args.name.now c.in-None.ensures.none, out)
