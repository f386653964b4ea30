use Rattle.std.proofs.Common.{◌+◌, ◌≤◌, length, ap, arith}
use Rattle.problem_model.specs.Limits.{most_nodes}
use Rattle.problem.proofs.AllReadings.{few_readings}
use Rattle.problem.proofs.ListedNodes.{length-nodes_of}
use Rattle.problem_solver.proofs.problems.node_count.Goals as goal

pub overflow_cast-result : goal.overflow_cast-result
overflow_cast-result c =
    let same = ap length c.events.ensures.value in
    let few = few_readings c.args.p.now c.args.readings.now c.requires in
    let limit = c.events.ensures.lawful.fits.event_limit in
    let small : length c.events.result.now + length c.args.readings.now ≤ most_nodes = omega (arith, same, few, limit) in
    omega (arith, small)

pub returns-clause-count : goal.returns-clause-count
returns-clause-count c =
    let same = ap length c.events.ensures.value in
    omega (arith, same, length-nodes_of c.args.p.now c.args.readings.now)

pub returns-clause-few : goal.returns-clause-few
returns-clause-few c =
    let same = ap length c.events.ensures.value in
    let few = few_readings c.args.p.now c.args.readings.now c.requires in
    let limit = c.events.ensures.lawful.fits.event_limit in
    omega (arith, same, few, limit)
