-- The greatest differences of two nodes of a graph, as its executions have them and as rows tell them.
use Rattle.std.specs.Prelude.{◌≡◌, ℕ, ◌<◌, ◌≤◌, length}
use Rattle.sync_graph.specs.Graph.{GraphLists}
use Rattle.row_pool.specs.declared.cell.Reach.TheVariants as reaches
use Rattle.row_pool.specs.declared.cell.Pair.{Pair}
use Rattle.row_pool.specs.Row.{cells_of}
use Rattle.row_pool.specs.Reach.{reach_of}
use Rattle.row_pool.specs.Pool.{Pool, row_of}
use Rattle.distances.specs.Reaches.{IsReachIn}
use Rattle.repair.specs.declared.slot.Slot.{Slot}

-- the greatest differences of two nodes in both directions; where the second is no node of the graph, none in either
pub record IsPairIn (g : GraphLists) (p q : ℕ) (pair : Pair) : Type 0 where
  pub up : q < length g.nodes → IsReachIn g p q pair.up
  pub down : q < length g.nodes → IsReachIn g q p pair.down
  pub past : length g.nodes ≤ q → (pair.up ≡ reaches.Never) × (pair.down ≡ reaches.Never)

-- what the rows of a slot tell of a node
abbrev pub pair_in : Pool → Slot → ℕ → Pair
pair_in pool slot q = record { up = reach_of (cells_of (row_of pool slot.from)) q; down = reach_of (cells_of (row_of pool slot.to)) q }
