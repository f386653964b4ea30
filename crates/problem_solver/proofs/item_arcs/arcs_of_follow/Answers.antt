use Rattle.std.proofs.Common.{List, [], sym, subst}
use Rattle.problem_model.specs.declared.items.Bound.{Bound}
use Rattle.problem_model.specs.Nodes.{nodes_of}
use Rattle.problem_graph.specs.BoundArcs.{arcs_in}
use Rattle.problem_solver.specs.Pushing.{AreBoundsAmong}
use Rattle.problem_solver.proofs.ItemArcs.{none_among}
use Rattle.problem_solver.proofs.item_arcs.arcs_of_follow.Goals as goal

pub returns-in-Some : goal.returns-in-Some
returns-in-Some c = λ rs are.
    subst (λ (bs : List Bound). AreBoundsAmong c.args.p.now (nodes_of c.args.p.now rs) bs (arcs_in c.arcs_between.result)) (sym (c.in-Some.ensures.bound rs are)) (c.arcs_between.ensures rs are)

pub returns-in-None : goal.returns-in-None
returns-in-None c = λ rs are.
    subst (λ (bs : List Bound). AreBoundsAmong c.args.p.now (nodes_of c.args.p.now rs) bs []) (sym (c.in-None.ensures.bound rs are)) (none_among c.args.p.now (nodes_of c.args.p.now rs))
