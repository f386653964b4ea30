-- Nodes and bounds of a problem that come one after another.
use Rattle.std.specs.Prelude.{◌≡◌, ◌+◌, List, ◌++◌, length, All}
use Rattle.problem_model.specs.declared.items.Node.{Node}
use Rattle.problem_model.specs.declared.items.Bound.{Bound}
use Rattle.problem_model.specs.Problem.{ProblemLists}
use Rattle.problem_model.specs.Nodes.{Reading, AreReadings, nodes_of}
use Rattle.sync_graph.specs.declared.arc.Arc.{Arc}
use Rattle.problem_graph.specs.BoundArcs.{names_of, FitsNodes, IsBoundAmong}
use Rattle.problem_graph.specs.Standing.{HasBounds, NodesLeft}
use Rattle.row_pool.specs.Pool.{free_rows}
use Rattle.solver.specs.Solver.{SolverLists, HasRoom}
use Rattle.solver.specs.Current.{IsCurrent}

-- the nodes are those of the problem in their order
abbrev pub HasNodesOf : ProblemLists → SolverLists → Type 0
HasNodesOf p s = (readings : List Reading) → AreReadings p readings → s.graph.nodes ≡ nodes_of p readings

-- the arcs are these bounds of the problem, between the numbers that their nodes have among these, and a graph may have them
pub record AreBoundsAmong (p : ProblemLists) (all : List Node) (bounds : List Bound) (arcs : List Arc) : Type 0 where
  pub named : names_of arcs ≡ bounds
  pub fit : All (FitsNodes all) arcs
  pub declared : All (IsBoundAmong p all) arcs

-- there is no arc, the nodes of the problem are there but for these, its last, and there is room for all
pub record NodesCome (p : ProblemLists) (readings : List Reading) (rest : List Node) (s : SolverLists) : Type 0 where
  pub current : IsCurrent s
  pub left : NodesLeft p readings rest s.graph
  pub room : HasRoom (length (nodes_of p readings)) s

-- these bounds are arcs in force behind those that were there; nodes, slots and the numbers of rows and of free ones are as before
pub record AddsBounds (p : ProblemLists) (bounds : List Bound) (old new : SolverLists) : Type 0 where
  pub current : IsCurrent new
  pub nodes : new.graph.nodes ≡ old.graph.nodes
  pub count : length new.graph.arcs ≡ length old.graph.arcs + length bounds
  pub added : (readings : List Reading) (done : List Bound) → AreReadings p readings → HasBounds p readings done old.graph → HasBounds p readings (done ++ bounds) new.graph
  pub slots : new.kept.slots ≡ old.kept.slots
  pub source : new.kept.source ≡ old.kept.source
  pub rows : length new.pool.rows ≡ length old.pool.rows
  pub free : free_rows new.pool ≡ free_rows old.pool
