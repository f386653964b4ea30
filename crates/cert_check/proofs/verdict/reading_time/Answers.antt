use Rattle.std.proofs.Common.{◌≡◌, ◌+◌, ◌-◌, length, ap, subst, arith, slice_get, Some}
use Rattle.std.proofs.lemmas.Option.{slice_get_within}
use Rattle.problem_model.proofs.OneList.{readings_one}
use Rattle.cert_check.proofs.Times.{reading_time_is, one_each}
use Rattle.cert_check.proofs.verdict.reading_time.Goals as goal

pub overflow_sub-readings : goal.overflow_sub-readings
overflow_sub-readings c = let within = c.requires.within c.readings.result.now c.readings.ensures in omega (arith, within)

pub overflow_cast-readings : goal.overflow_cast-readings
overflow_cast-readings c =
    let each = one_each c.args.p.now c.readings.result.now c.args.e.now c.requires.each c.readings.ensures in
    omega (arith, each, c.len.ensures.count, c.len.type_inv)

pub overflow_sub-len : goal.overflow_sub-len
overflow_sub-len c =
    let each = one_each c.args.p.now c.readings.result.now c.args.e.now c.requires.each c.readings.ensures in
    omega (arith, each, c.len.ensures.count)

pub value-requires : goal.value-requires
value-requires c =
    let each = one_each c.args.p.now c.readings.result.now c.args.e.now c.requires.each c.readings.ensures in
    let within = c.requires.within c.readings.result.now c.readings.ensures in
    omega (arith, each, c.len.ensures.count, within)

pub returns : goal.returns
returns c = λ x readings r times at.
    let each = one_each c.args.p.now readings c.args.e.now c.requires.each times.are_readings in
    let within = slice_get_within readings c.args.place r at in
    let same = ap length (readings_one c.args.p.now c.readings.result.now readings c.readings.ensures times.are_readings) in
    let node : c.len.result - (length c.readings.result.now - c.args.place) ≡ length c.args.p.now.events + c.args.place = omega (arith, each, c.len.ensures.count, within, same) in
    reading_time_is c.args.p.now x readings c.args.e.now c.args.place r c.value.result times at (subst (λ n. slice_get c.args.e.now n ≡ Some c.value.result) node c.value.ensures.value)
