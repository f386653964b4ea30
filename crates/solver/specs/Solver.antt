-- What a solver holds.
use Rattle.std.specs.Prelude.{◌≤◌, ◌++◌, ◌∷◌, [], ℕ, List, pos}
use Rattle.problem_model.specs.declared.items.Node.{Node}
use Rattle.sync_graph.specs.declared.arc.Arc.{Arc}
use Rattle.sync_graph.specs.Graph.{GraphLists, with_node}
use Rattle.earliest.specs.Values.{Values}
use Rattle.row_pool.specs.Pool.{Pool}
use Rattle.repair.specs.Slots.{KeptRows}

-- a graph, its values and whether they are solved, a contradiction of it or no arc, a pool with the rows of kept nodes,
-- and the room of the frontier
pub record SolverLists : Type 0 where
  pub graph : GraphLists
  pub earliest : Values
  pub contradiction : List Arc
  pub pool : Pool
  pub kept : KeptRows
  pub front : ℕ

-- rows, the list of the nodes that a withdrawal affects, and the frontier have room for so many nodes
pub record HasRoom (nodes : ℕ) (s : SolverLists) : Type 0 where
  pub rows : nodes ≤ s.pool.width
  pub found : nodes ≤ s.kept.room
  pub front : nodes ≤ s.front

-- one more node, of value 0
abbrev pub with_new_node : SolverLists → Node → SolverLists
with_new_node s n = record {
  graph = with_node s.graph n;
  earliest = record { values = s.earliest.values ++ pos 0 ∷ []; is_solved = s.earliest.is_solved; workspace = s.earliest.workspace ++ 0 ∷ [] };
  contradiction = s.contradiction;
  pool = s.pool;
  kept = s.kept;
  front = s.front;
}
