use Rattle.std.proofs.Common.{◌≡◌, ◌<◌, ◌^◌, List, slice_get, Some, subst, arith, rules}
use Rattle.std.proofs.lemmas.Option.{slice_get_within}
use Rattle.problem_model.specs.Nodes.{Reading, AreReadings}
use Rattle.problem_model.proofs.OneList.{readings_one}
use Rattle.problem.proofs.AllReadings.{few_readings}
use Rattle.problem.proofs.problem.Problem.reading_place.Goals as goal

pub overflow_cast-result : goal.overflow_cast-result
overflow_cast-result c =
    let p = c.self.inside.items in
    let rs : List Reading = c.deref.result.now in
    let mine : AreReadings p rs = rw c.deref.ensures.value c.self.invariant in
    let found : slice_get rs c.in-Some.place ≡ Some (c.args.clock, c.args.stamp) = c.in-Some.ensures.some in
    let small : c.in-Some.place < 2 ^ 32 = omega (arith, few_readings p rs mine, c.events.ensures.lawful.fits.event_limit, slice_get_within rs _ _ found) in
    search rules

pub returns-in-Some-clause-some : goal.returns-in-Some-clause-some
returns-in-Some-clause-some c readings are =
    let rs : List Reading = c.deref.result.now in
    let mine : AreReadings c.args.self.now rs = rw (← c.self.view_is, c.deref.ensures.value) c.self.invariant in
    let one : rs ≡ readings = readings_one c.args.self.now rs readings mine are in
    subst (λ (list : List Reading). slice_get list c.in-Some.place ≡ Some (c.args.clock, c.args.stamp)) one c.in-Some.ensures.some

pub returns-in-None-clause-none : goal.returns-in-None-clause-none
returns-in-None-clause-none c there =
    let rs : List Reading = c.deref.result.now in
    let mine : AreReadings c.args.self.now rs = rw (← c.self.view_is, c.deref.ensures.value) c.self.invariant in
    c.in-None.ensures.none (mine.every c.args.clock c.args.stamp there)
