use Rattle.std.proofs.Common.{◌≡◌, ◌+◌, get_or, arith}
use Rattle.problem_solver.proofs.ItemSteps.{neighbours_at, span_pushed}
use Rattle.problem_solver.proofs.items.push_span.Goals as goal

pub returns : goal.returns
returns c = λ p are.
    let rs = c.args.readings.now in
    let k = c.args.place in
    let same : (get_or rs k c.index-readings-place.result).0 ≡ (get_or rs (k + 1) c.index-readings-place-2.result).0 = omega (arith, c.if-readings-place.false) in
    span_pushed p rs k 0 0 0 c.args.items.now.items c.push.new.self.items _ are c.in_ok-push.ensures.items (neighbours_at p rs k c.index-readings-place.result c.index-readings-place-2.result c.requires.inside same)
