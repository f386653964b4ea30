use Rattle.std.proofs.Common.{◌≡◌, take}
use Rattle.std.specs.Prelude.{map}
use Rattle.sync_graph.specs.Graph.{arc_at}
use Rattle.solver.proofs.withdrawn_arcs.list_arcs.Given as goal

abbrev pub invariant-loop-k : goal.invariant-loop-k
invariant-loop-k l = l.arcs.items ≡ map (arc_at l.g.arcs) (take l.k-index l.numbers)
