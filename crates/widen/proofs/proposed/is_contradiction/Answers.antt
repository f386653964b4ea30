use Rattle.std.proofs.Common.{length, ap, arith}
use Rattle.widen.proofs.Proposing.{short_by}
use Rattle.widen.proofs.proposed.is_contradiction.Goals as goal

pub returns-in-Yes-clause-short : goal.returns-in-Yes-clause-short
returns-in-Yes-clause-short c = λ yes readings are.
    let events = ap length c.events-events.ensures.value in
    let steps = ap length c.steps.ensures in
    short_by c.args.p.now c.readings-readings.result.now readings (length c.args.cycle.now) c.readings-readings.ensures are (omega (arith, c.if-steps-events.false, events, steps))
