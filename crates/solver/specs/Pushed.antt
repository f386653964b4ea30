-- An arc that was pushed and is not yet brought in.
use Rattle.std.specs.Prelude.{◌≡◌, ℕ, [], List, true, false}
use Rattle.sync_graph.specs.declared.arc.Arc.{Arc}
use Rattle.earliest.specs.Values.{IsEarliestBut}
use Rattle.repair.specs.Slots.{AreRowsBut, with_presence}
use Rattle.solver.specs.Solver.{SolverLists}
use Rattle.solver.specs.Current.{IsSetUp}

-- values and kept rows are those of the graph without the arc
pub record IsPushed (arc : ℕ) (s : SolverLists) : Type 0 where
  pub set_up : IsSetUp s
  pub solved : s.earliest.is_solved ≡ true
  pub earliest : IsEarliestBut s.graph arc s.earliest.values
  pub none : s.contradiction ≡ []
  pub present : s.kept.present ≡ true
  pub rows : AreRowsBut s.graph arc s.kept s.pool

-- another contradiction, and no row is present
abbrev pub with_contradiction : SolverLists → List Arc → SolverLists
with_contradiction s cycle = record {
  graph = s.graph;
  earliest = s.earliest;
  contradiction = cycle;
  pool = s.pool;
  kept = with_presence s.kept false;
  front = s.front;
}
