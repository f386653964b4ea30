-- How a search ends that is left after so many nodes, and what it knows of a graph.
use Rattle.std.specs.Prelude.{◌≡◌, ℕ, ℤ, Bool, true, List, [], length, pos, neg_ℤ, Option, Some, None}
use Rattle.problem_model.specs.Executions.{at}
use Rattle.problem_model.specs.Parents.{IsRow}
use Rattle.problem_model.specs.Tables.{ArcTable, reversed_table}
use Rattle.sync_graph.specs.Graph.{GraphLists, table_of}
use Rattle.row_pool.specs.declared.cell.Cell.{Cell}
use Rattle.row_pool.specs.declared.cell.Reach.{Reach}
use Rattle.row_pool.specs.Row.{cell_at, cells_of}
use Rattle.distances.specs.declared.near.End.{End}
use Rattle.distances.specs.declared.near.End.TheVariants.{Known, Beyond}
use Rattle.distances.specs.Guides.{IsFence, guided_values}
use Rattle.distances.specs.Reaches.{IsReachOver}

-- it knows the greatest difference, or what it knows is a fence
abbrev pub IsEnd : ArcTable → ℕ → ℕ → (ℕ → ℤ) → (ℕ → Bool) → (ℕ → ℤ) → End → Type 0
IsEnd table p q e known value (Known reach) = IsReachOver table p q reach
IsEnd table p q e known value (Beyond beyond) = IsFence table p e beyond known value

-- the greatest difference, where it is known
abbrev pub told_reach : End → Option Reach
told_reach (Known reach) = Some reach
told_reach (Beyond beyond) = None

-- both rows know the node
abbrev pub AreKnown : List Cell → List Cell → ℕ → Type 0
AreKnown from to k = ((cell_at from k).known ≡ true) × ((cell_at to k).known ≡ true)

-- they are the rows from a node and towards it
abbrev pub AreRowsAround : GraphLists → List Cell → List Cell → Type 0
AreRowsAround g from to = (source : ℕ) × IsRow (length g.nodes) (table_of g) source (cells_of from) × IsRow (length g.nodes) (reversed_table (table_of g)) source (cells_of to)

-- the cells are distances towards q, over the values by which the two rows guide
abbrev pub IsFenceAround : GraphLists → List Cell → List Cell → List ℤ → ℕ → List Cell → ℤ → Type 0
IsFenceAround g from to values q cells beyond =
    IsFence (reversed_table (table_of g)) q (λ k. neg_ℤ (at (guided_values (record { from = from; to = to; fence = []; beyond = pos 0 }) values) k)) beyond (λ k. (cell_at cells k).known) (λ k. (cell_at cells k).value)
