-- Arcs that were taken out of force, where values and rows are not repaired yet.
use Rattle.std.specs.Prelude.{◌≡◌, ℕ, [], true, List, length, map, All}
use Rattle.sync_graph.specs.declared.arc.Arc.{Arc}
use Rattle.sync_graph.specs.Graph.{GraphLists, IsSound, arc_at}
use Rattle.earliest.specs.Withdrawn.{IsEarliestWith}
use Rattle.repair.specs.Slots.{all_slots}
use Rattle.repair.specs.Withdrawals.{WereRows}
use Rattle.solver.specs.Solver.{SolverLists}
use Rattle.solver.specs.Current.{IsSetUp}

-- the arcs of these numbers
abbrev pub arcs_numbered : GraphLists → List ℕ → List Arc
arcs_numbered g numbers = map (arc_at g.arcs) numbers

-- values and kept rows are those of the graph with these arcs in force as well
pub record IsCutDown (removed : List Arc) (s : SolverLists) : Type 0 where
  pub set_up : IsSetUp s
  pub solved : s.earliest.is_solved ≡ true
  pub sound : All (IsSound (length s.graph.nodes)) removed
  pub earliest : IsEarliestWith s.graph removed s.earliest.values
  pub none : s.contradiction ≡ []
  pub present : s.kept.present ≡ true
  pub rows : WereRows s.graph removed s.pool (all_slots s.kept)
