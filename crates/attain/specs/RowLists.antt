-- The rows of distances of a node, and what they are by.
use Rattle.std.specs.Prelude.{◌≡◌, ℕ, true, List, ℤ}
use Rattle.problem_model.specs.Parents.{Cells}
use Rattle.sync_graph.specs.Graph.{GraphLists, IsGraph}
use Rattle.sync_graph.specs.InForce.{IsEarliestOf}
use Rattle.row_pool.specs.declared.cell.Cell.{Cell}
use Rattle.row_pool.specs.Row.{cells_of}
use Rattle.attain.specs.declared.side.Side.{Side}
use Rattle.attain.specs.declared.side.Side.TheVariants.{Upper, Lower}
use Rattle.attain.specs.Ends.{AreRowsAt}

-- a graph, a value for each of its nodes, one of its nodes, and the rows of distances from this node and towards it
pub record RowLists : Type 0 where
  pub graph : GraphLists
  pub values : List ℤ
  pub node : ℕ
  pub from : List Cell
  pub to : List Cell

-- the values are the graph's earliest execution, and the rows are those of the node
pub record AreRows (r : RowLists) : Type 0 where
  pub graph : IsGraph r.graph
  pub earliest : IsEarliestOf r.graph r.values
  pub at_node : AreRowsAt r.graph r.node r.from r.to

-- the row for an end: for the upper one that from the node, for the lower one that towards it
abbrev pub row_for : Side → RowLists → List Cell
row_for Upper r = r.from
row_for Lower r = r.to

-- what this row says of each node
abbrev pub cells_for : Side → RowLists → Cells
cells_for side r = cells_of (row_for side r)

-- this row has a distance of the node
abbrev pub IsKnown : Side → RowLists → ℕ → Type 0
IsKnown side r node = (cells_for side r).known node ≡ true
