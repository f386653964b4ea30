use Rattle.std.proofs.Common.{◌++◌, List, sym, subst, arith}
use Rattle.problem_model.specs.declared.items.Bound.{Bound}
use Rattle.problem_graph.proofs.MadeArcs.{as_many}
use Rattle.problem_graph.proofs.OneMore.{on_ok}
use Rattle.roster.specs.Growing.{IsGrowing}
use Rattle.session_graph.specs.Pushes.{Brings}
use Rattle.session_graph.proofs.pushes.push_stamp.Goals as goal

pub push_arcs-requires-clause-fit : goal.push_arcs-requires-clause-fit
push_arcs-requires-clause-fit g c = c.stamp_arcs-arcs.ensures.fit c.args.solver.now.graph.nodes (c.number_of-first.ensures, c.number_of-second.ensures)

pub push_arcs-requires-clause-room : goal.push_arcs-requires-clause-room
push_arcs-requires-clause-room g c =
    let many = as_many c.stamp_arcs-arcs.ensures in
    let room = c.requires.room in
    omega (arith, many, room)

pub returns-clause-brings : goal.returns-clause-brings
returns-clause-brings g c = on_ok c.push_arcs.result c.push_arcs.ensures.brings (λ brings.
    subst (λ (bs : List Bound). Brings bs c.args.solver.now c.push_arcs.new.solver) c.stamp_arcs-arcs.ensures.named brings)

pub returns-clause-left : goal.returns-clause-left
returns-clause-left g c = on_ok c.push_arcs.result c.push_arcs.ensures.left (λ left p entered rest e event on is bounded clock growing.
    left p entered rest (c.stamp_arcs-arcs.ensures.declared p c.args.solver.now.graph.nodes (c.number_of-first.ensures, c.number_of-second.ensures) (e, event, on, is, bounded, clock))
    (subst (λ (bs : List Bound). IsGrowing p entered (bs ++ rest) c.args.solver.now.graph) (sym c.stamp_arcs-arcs.ensures.named) growing))
