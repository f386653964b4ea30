use Rattle.std.proofs.Common.{ℕ, subst}
use Rattle.std.specs.Prelude.{All}
use Rattle.cert_check.specs.Widened.{widened}
use Rattle.widen.specs.Weighed.{IsWeighed}
use Rattle.widen.proofs.Weighing.{holds_weighed, names_held}
use Rattle.widen.proofs.Ground.{all_arcs}
use Rattle.widen.proofs.attempt.try_widening.Goals as goal

pub widened_graph-requires : goal.widened_graph-requires
widened_graph-requires g c = names_held c.args.p.now c.readings.result.now c.args.from.now.graph.now c.readings.ensures c.requires.graph

pub solve_graph-requires-clause-order : goal.solve_graph-requires-clause-order
solve_graph-requires-clause-order g c = all_arcs c.args.from.now.graph.now c.in_ok-h.h c.args.from.now.order.now c.in_ok-h.ensures.same c.requires.order

pub said_of_problem-requires-clause-graph : goal.said_of_problem-requires-clause-graph
said_of_problem-requires-clause-graph g c =
    let w = c.args.what in
    let p = c.args.p.now in
    let h = c.in_ok-h.h in
    let weighed : All (IsWeighed (widened w p c.args.extra)) h.arcs = subst (λ (e : ℕ). All (IsWeighed (widened w p e)) h.arcs) c.nano.ensures c.in_ok-h.ensures.weighed in
    holds_weighed w p c.args.extra c.args.from.now.graph.now h c.requires.graph c.in_ok-h.ensures.nodes c.in_ok-h.ensures.same weighed c.in_ok-h.ensures.in_force
