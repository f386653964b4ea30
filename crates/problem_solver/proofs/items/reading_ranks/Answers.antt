use Rattle.std.proofs.Common.{arith}
use Rattle.std.proofs.lemmas.Option.{slice_get_within}
use Rattle.problem_solver.proofs.items.reading_ranks.Goals as goal

pub index-requires : goal.index-requires
index-requires c =
    let rs = c.args.readings.now in
    let inside = slice_get_within rs c.reading_of-reading.result _ (c.reading_of-reading.ensures rs c.requires.readings) in
    let long = c.loop-place.invariant in
    omega (arith, inside, long)

pub index_mut-requires : goal.index_mut-requires
index_mut-requires c =
    let rs = c.args.readings.now in
    let inside = slice_get_within rs c.reading_of-reading.result _ (c.reading_of-reading.ensures rs c.requires.readings) in
    let long = c.loop-place.invariant in
    omega (arith, inside, long)
