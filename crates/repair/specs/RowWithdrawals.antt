-- The withdrawal of arcs from a graph whose rows are known.
use Rattle.std.specs.Prelude.{◌≡◌, ℕ, ◌⊎◌, true, false, List, length, slice_index_or, Contains}
use Rattle.row_pool.specs.declared.cell.Cell.{Cell}
use Rattle.row_pool.specs.Row.{cells_of}
use Rattle.sync_graph.specs.declared.arc.Arc.{Arc}
use Rattle.sync_graph.specs.Graph.{GraphLists, arc_at}
use Rattle.withdrawals.specs.Regrowths.{IsAffectedIn}
use Rattle.distances.specs.declared.side.Side.TheVariants.{From, Towards}
use Rattle.distances.specs.Facing.{facing}

-- the graph before had the same nodes and arcs; what is in force was so, and whatever else was equals one of the removed arcs
pub record AreWithdrawn (before : GraphLists) (removed : List Arc) (after : GraphLists) : Type 0 where
  pub nodes : after.nodes ≡ before.nodes
  pub arcs : after.arcs ≡ before.arcs
  pub flags : length before.in_force ≡ length before.arcs
  pub left : (j : ℕ) → slice_index_or after.in_force j false ≡ true → slice_index_or before.in_force j false ≡ true
  pub gone : (j : ℕ) → slice_index_or before.in_force j false ≡ true
      → (slice_index_or after.in_force j false ≡ true) ⊎ Contains removed (arc_at before.arcs j)

-- the arc of this number equals one of those removed, name and all
abbrev pub IsRemoved : GraphLists → List Arc → ℕ → Type 0
IsRemoved g removed j = Contains removed (arc_at g.arcs j)

-- the cell of the node is known, and its path by parents has an arc that equals one of those removed
abbrev pub IsAffectedFrom : GraphLists → List Arc → ℕ → List Cell → ℕ → Type 0
IsAffectedFrom g removed p row k = IsAffectedIn (facing From g) (IsRemoved g removed) p (cells_of row) k

-- the same of a row towards p, whose paths go the other way
abbrev pub IsAffectedTo : GraphLists → List Arc → ℕ → List Cell → ℕ → Type 0
IsAffectedTo g removed p row k = IsAffectedIn (facing Towards g) (IsRemoved g removed) p (cells_of row) k
