use Rattle.std.proofs.Common.{rules, ◌<◌, ◌≤◌, length, ap, arith}
use Rattle.roster.specs.Groups.{lists_of}
use Rattle.roster.specs.Sums.{first_of}
use Rattle.roster.proofs.PairSums.{place_inside}
use Rattle.roster.proofs.sums.Sums.find.Goals as goal

pub overflow_cast-result : goal.overflow_cast-result
overflow_cast-result c =
    let inside = place_inside _ _ _ _ c.place_in-found.ensures in
    let few : length (first_of (lists_of c.self.inside.levels.items)) ≤ 65536 = c.self.invariant.1 in
    let same = ap (λ ls. length (first_of (lists_of ls))) c.deref.ensures.value in
    let within : c.place_in-found.result.0 < 65536 = omega (arith, inside, few, same) in
    search rules
