use Rattle.std.proofs.Common.{arith}
use Rattle.problem.proofs.AllReadings.{few_readings}
use Rattle.problem_solver.proofs.items.push_spans.Goals as goal

pub push_span-requires-clause-few : goal.push_span-requires-clause-few
push_span-requires-clause-few c =
    let few = few_readings c.args.p.now c.args.readings.now c.requires.readings in
    let limit = c.events.ensures.lawful.fits.event_limit in
    omega (arith, few, limit)
