use Rattle.std.proofs.Common.{◌≡◌, ◌≤◌, ℕ, length, sym, subst}
use Rattle.problem_model.specs.Limits.{most_arcs}
use Rattle.problem_solver.proofs.Orders.{order_long, order_in_force, order_every}
use Rattle.problem_solver.proofs.graphs.bring_in.Goals as goal

pub rebuild_in_order-requires-clause-in_force : goal.rebuild_in_order-requires-clause-in_force
rebuild_in_order-requires-clause-in_force g c = order_in_force c.args.g.now c.args.order.now c.requires.order c.requires.in_force

pub rebuild_in_order-requires-clause-every : goal.rebuild_in_order-requires-clause-every
rebuild_in_order-requires-clause-every g c = order_every c.args.g.now c.args.order.now c.requires.order c.requires.in_force

pub rebuild_in_order-requires-clause-few : goal.rebuild_in_order-requires-clause-few
rebuild_in_order-requires-clause-few g c =
    let limit : length c.args.g.now.arcs ≤ most_arcs = c.exact.ensures.arc_limit in
    let long : length c.args.order.now ≡ length c.args.g.now.arcs = order_long c.args.g.now c.args.order.now c.requires.order in
    subst (λ (n : ℕ). n ≤ most_arcs) (sym long) limit
