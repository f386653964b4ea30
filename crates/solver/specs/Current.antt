-- What a solver holds is of its present graph.
use Rattle.std.specs.Prelude.{◌≡◌, ◌⊎◌, [], true, false, length}
use Rattle.sync_graph.specs.Graph.{IsGraph}
use Rattle.sync_graph.specs.InForce.{IsEarliestOf}
use Rattle.earliest.specs.Inserted.{IsNegativeCycle}
use Rattle.repair.specs.Slots.{AreOwnRows, AreRowsOf, AreNodes}
use Rattle.solver.specs.Solver.{SolverLists, HasRoom}

-- an execution exists: the values are the earliest one, no contradiction is held, and the kept rows are present and those of the graph
pub record IsSolvedNow (s : SolverLists) : Type 0 where
  pub solved : s.earliest.is_solved ≡ true
  pub earliest : IsEarliestOf s.graph s.earliest.values
  pub none : s.contradiction ≡ []
  pub present : s.kept.present ≡ true
  pub rows : AreRowsOf s.graph s.kept s.pool

-- no execution exists: a negative cycle of arcs in force is held, and no row is present
pub record IsContradicted (s : SolverLists) : Type 0 where
  pub unsolved : s.earliest.is_solved ≡ false
  pub cycle : IsNegativeCycle s.graph s.contradiction
  pub absent : s.kept.present ≡ false

-- there is one value for each node, each slot has a node and two rows of its own, and there is room for all nodes
pub record IsSetUp (s : SolverLists) : Type 0 where
  pub graph : IsGraph s.graph
  pub one_each : length s.earliest.values ≡ length s.graph.nodes
  pub own : AreOwnRows s.kept s.pool
  pub nodes : AreNodes s.graph s.kept
  pub room : HasRoom (length s.graph.nodes) s

-- the solver is set up, and what it holds is one of the two answers, for the graph as it is now
pub record IsCurrent (s : SolverLists) : Type 0 where
  pub set_up : IsSetUp s
  pub answer : IsSolvedNow s ⊎ IsContradicted s
