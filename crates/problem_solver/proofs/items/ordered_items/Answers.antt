use Rattle.std.proofs.Common.{◌-◌, length}
use Rattle.problem_solver.proofs.ItemSteps.{sorted_items}
use Rattle.problem_solver.proofs.items.ordered_items.Goals as goal

pub returns : goal.returns
returns g c =
    let p = c.args.p.now in
    let rs = c.args.readings.now in
    sorted_items p rs (length rs - 1) (length p.clocks) (length p.events) (length p.messages) c.in_ok-items.items.items c.sort_unstable_by_key.new.self.items c.sort_unstable_by_key.ensures.permutation c.in_ok-items.ensures
