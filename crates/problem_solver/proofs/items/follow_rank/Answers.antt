use Rattle.std.proofs.Common.{arith}
use Rattle.std.proofs.lemmas.Option.{slice_get_within}
use Rattle.problem_solver.proofs.items.follow_rank.Goals as goal

pub bounds-ranks-first : goal.bounds-ranks-first
bounds-ranks-first c =
    let rs = c.args.readings.now in
    let inside = slice_get_within rs c.place_of-first.result _ (c.place_of-first.ensures rs c.requires.readings) in
    let long = c.requires.ranks in
    omega (arith, inside, long)

pub bounds-ranks-second : goal.bounds-ranks-second
bounds-ranks-second c =
    let rs = c.args.readings.now in
    let inside = slice_get_within rs c.place_of-second.result _ (c.place_of-second.ensures rs c.requires.readings) in
    let long = c.requires.ranks in
    omega (arith, inside, long)
