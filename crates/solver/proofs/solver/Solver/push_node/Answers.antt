use Rattle.std.proofs.Common.{◌+◌, [], ◌∷◌, ◌++◌, length, sym, subst}
use Rattle.std.specs.Prelude.{pos}
use Rattle.sync_graph.specs.Graph.{GraphLists, IsGraph, with_node}
use Rattle.earliest.specs.Values.{Values}
use Rattle.solver.specs.Solver.{SolverLists, HasRoom}
use Rattle.solver.specs.Current.{IsCurrent}
use Rattle.solver.specs.contracts.solver.Solver.{the_view}
use Rattle.solver.proofs.Longer.{current_with_node}
use Rattle.solver.proofs.solver.Solver.push_node.Goals as goal

pub returns-clause-current : goal.returns-clause-current
returns-clause-current c =
    let s : SolverLists = the_view c.self.inside in
    let current : IsCurrent s = subst IsCurrent (sym c.self.view_is) c.requires.current in
    let room : HasRoom (length s.graph.nodes + 1) s = subst (λ (x : SolverLists). HasRoom (length x.graph.nodes + 1) x) (sym c.self.view_is) c.requires.room in
    let is : IsGraph (with_node s.graph c.args.n) = subst IsGraph c.in_ok-node.ensures.ok c.exact.ensures in
    subst (λ (e : Values). IsCurrent (record { graph = c.push_node-2.new.self; earliest = e; contradiction = s.contradiction; pool = s.pool; kept = s.kept; front = s.front })) (sym c.in_ok-push_node.ensures.ok)
    (subst (λ (h : GraphLists). IsCurrent (record { graph = h; earliest = record { values = s.earliest.values ++ pos 0 ∷ []; is_solved = s.earliest.is_solved; workspace = s.earliest.workspace ++ 0 ∷ [] }; contradiction = s.contradiction; pool = s.pool; kept = s.kept; front = s.front })) (sym c.in_ok-node.ensures.ok)
    (current_with_node s c.args.n current is room
    (c.growth.ensures.node s.graph c.args.n s.earliest.values current.set_up.graph)
    (c.rows_of_a_grown_graph.ensures.node s.graph c.args.n s.kept s.pool)))
