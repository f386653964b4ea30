use Rattle.std.proofs.Common.{◌<◌, ℕ, get_or}
use Rattle.std.specs.Prelude.{Contains}
use Rattle.sync_graph.specs.Graph.{arc_at}
use Rattle.solver.proofs.withdrawn_arcs.are_met.Given as goal

abbrev pub invariant-loop-k : goal.invariant-loop-k
invariant-loop-k l = (i d : ℕ) → i < l.k-index → Contains l.cycle (arc_at l.g.arcs (get_or l.numbers i d)) → ⊥
