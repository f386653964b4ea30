use Rattle.std.proofs.Common.{◌+◌, ◌<◌, length, ap, arith}
use Rattle.problem_model.specs.Limits.{most_nodes}
use Rattle.problem.proofs.AllReadings.{few_readings}
use Rattle.problem_solver.proofs.item_arcs.node_of_reading.Goals as goal

pub overflow_add-result : goal.overflow_add-result
overflow_add-result c =
    let rs = c.readings.result.now in
    let inside = c.requires rs c.readings.ensures in
    let same = ap length c.events.ensures.value in
    let few = few_readings c.args.p.now rs c.readings.ensures in
    let limit = c.events.ensures.lawful.fits.event_limit in
    let small : length c.events.result.now + c.args.place < most_nodes = omega (arith, inside, same, few, limit) in
    omega (arith, small)

pub returns-clause-few : goal.returns-clause-few
returns-clause-few c =
    let rs = c.readings.result.now in
    let inside = c.requires rs c.readings.ensures in
    let same = ap length c.events.ensures.value in
    let few = few_readings c.args.p.now rs c.readings.ensures in
    let limit = c.events.ensures.lawful.fits.event_limit in
    omega (arith, inside, same, few, limit)
