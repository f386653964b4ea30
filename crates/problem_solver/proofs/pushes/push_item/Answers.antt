use Rattle.std.proofs.Common.{◌≡◌, List, All, sym, subst}
use Rattle.problem_model.specs.declared.items.Bound.{Bound}
use Rattle.problem_model.specs.declared.items.Node.{Node}
use Rattle.problem_model.specs.Nodes.{nodes_of}
use Rattle.problem_graph.specs.BoundArcs.{IsBoundAmong, arcs_in}
use Rattle.problem_graph.proofs.OneMore.{on_ok}
use Rattle.problem_solver.specs.Pushing.{AddsBounds}
use Rattle.problem_solver.proofs.pushes.push_item.Goals as goal

pub returns : goal.returns
returns g c = on_ok c.push_arcs.result c.push_arcs.ensures (λ adds.
    let p = c.args.p.now in
    let rs = c.args.readings.now in
    let s = c.args.s.now in
    let made = c.item_arcs-arcs.ensures in
    let nodes : s.graph.nodes ≡ nodes_of p rs = c.requires.nodes rs c.requires.readings in
    subst (λ (bs : List Bound). AddsBounds p bs s c.push_arcs.new.s) made.named
    (adds p (subst (λ (ns : List Node). All (IsBoundAmong p ns) (arcs_in c.item_arcs-arcs.result)) (sym nodes) made.declared)))
