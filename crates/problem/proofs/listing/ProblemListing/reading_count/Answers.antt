use Rattle.std.proofs.Common.{◌<◌, ◌^◌, length, arith, rules}
use Rattle.problem.proofs.AllReadings.{few_readings, length-event_places, length-listed}
use Rattle.problem.proofs.listing.ProblemListing.reading_count.Goals as goal

pub overflow_cast-result : goal.overflow_cast-result
overflow_cast-result c =
    let small : length c.readings.result.now < 2 ^ 32 = omega (arith, few_readings c.args.self.now c.readings.result.now c.readings.ensures, c.events.ensures.lawful.fits.event_limit) in
    search rules

pub returns-clause-count : goal.returns-clause-count
returns-clause-count c = length-listed c.args.self.now c.readings.result.now c.readings.ensures

pub returns-clause-few : goal.returns-clause-few
returns-clause-few c =
    let p = c.args.self.now in
    let rs = c.readings.result.now in
    omega (arith, few_readings p rs c.readings.ensures, c.events.ensures.lawful.fits.event_limit, length-event_places 0 p.events, length-listed p rs c.readings.ensures)
