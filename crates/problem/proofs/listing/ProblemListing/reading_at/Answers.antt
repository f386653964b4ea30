use Rattle.std.proofs.Common.{◌<◌, ◌+◌, ◌^◌, ℕ, length, ap, arith, rules}
use Rattle.problem.proofs.AllReadings.{few_readings, length-listed, listed_as, clock_named}
use Rattle.problem.proofs.listing.ProblemListing.reading_at.Goals as goal

pub bounds-readings-place : goal.bounds-readings-place
bounds-readings-place c = omega (arith, c.requires, length-listed c.args.self.now c.readings.result.now c.readings.ensures)

pub overflow_add-result : goal.overflow_add-result
overflow_add-result c =
    let p = c.args.self.now in
    let rs = c.readings.result.now in
    let many = ap length c.events.ensures.value in
    let small : length c.events.result.now + c.args.place < 2 ^ 32 = omega (arith, many, c.requires, length-listed p rs c.readings.ensures, few_readings p rs c.readings.ensures, c.events.ensures.lawful.fits.event_limit) in
    search rules

pub returns-clause-value : goal.returns-clause-value
returns-clause-value c =
    let p = c.args.self.now in
    let rs = c.readings.result.now in
    let inside : c.args.place < length rs = omega (arith, c.requires, length-listed p rs c.readings.ensures) in
    let count = ap (λ (n : ℕ). n + c.args.place) (ap length c.events.ensures.value) in
    listed_as p rs c.readings.ensures c.args.place _ _ inside c.index-readings-place.is count

pub returns-clause-named : goal.returns-clause-named
returns-clause-named c =
    let p = c.args.self.now in
    let rs = c.readings.result.now in
    let inside : c.args.place < length rs = omega (arith, c.requires, length-listed p rs c.readings.ensures) in
    clock_named p rs c.readings.ensures c.events.ensures.lawful c.args.place _ inside c.index-readings-place.is
