-- What a search looks at, and the row and the queue that it works on.
use Rattle.std.specs.Prelude.{◌+◌, ◌≡◌, ℕ, ◌^◌, ◌<◌, ◌≤◌, true, false, List, length, ℤ, pos, ◌≤ℤ◌, Option, All}
use Rattle.problem_model.specs.Numbers.{IsUpTo}
use Rattle.problem_model.specs.RowPops.{IsCandidate}
use Rattle.problem_model.specs.Tables.{ArcTable, ObeysAll}
use Rattle.problem_model.specs.Executions.{at}
use Rattle.problem_model.specs.Limits.{path_bits}
use Rattle.sync_graph.specs.Graph.{GraphLists, IsGraph, table_of}
use Rattle.row_pool.specs.declared.cell.Cell.{Cell}
use Rattle.row_pool.specs.Row.{cell_at, cells_of}
use Rattle.distances.specs.declared.side.Side.{Side}
use Rattle.distances.specs.Facing.{facing, followed, potential}
use Rattle.distances.specs.Relaxed.{AreKeyed}

-- a graph, the values by which its nodes are ordered, one for each, and the way in which its arcs are followed
pub record Searched : Type 0 where
  pub graph : GraphLists
  pub values : List ℤ
  pub side : Side

-- how many nodes there are
abbrev pub nodes : Searched → ℕ
nodes s = length s.graph.nodes

-- the arcs as they are followed
abbrev pub table : Searched → ArcTable
table s = facing s.side s.graph

-- for each node the numbers of the arcs that are followed from it
abbrev pub lists : Searched → List (List ℕ)
lists s = followed s.side s.graph

-- the potential of each node
abbrev pub height : Searched → ℕ → ℤ
height s = potential s.side s.values

-- the values obey the graph's arcs, and are small
pub record IsSearch (s : Searched) : Type 0 where
  pub graph : IsGraph s.graph
  pub obeyed : ObeysAll (table_of s.graph) (at s.values)
  pub small : All (IsUpTo path_bits) s.values

-- there is a cell and room for each node, and what waits is known and has its reduced cost as its key
pub record IsOpenRow (s : Searched) (row : List Cell) (front : List (Option ℤ)) : Type 0 where
  pub cells : nodes s ≤ length row
  pub room : nodes s ≤ length front
  pub keyed : AreKeyed (height s) front row

-- no distance is great, and no cell past the nodes has one
pub record IsPartRow (s : Searched) (row : List Cell) : Type 0 where
  pub low : (k : ℕ) → (cell_at row k).known ≡ true → (cell_at row k).value ≤ℤ pos (2 ^ (path_bits + 2))
  pub past : (k : ℕ) → nodes s ≤ k → (cell_at row k).known ≡ false

-- the node may have the distance, and the row of p lacks at most what that brings
pub record IsStart (s : Searched) (p : ℕ) (row : List Cell) (node : ℕ) (distance : ℤ) (parent : ℕ) : Type 0 where
  pub within : node < nodes s
  pub small : IsUpTo (path_bits + 2) distance
  pub brings : IsCandidate (table s) p (cells_of row) node distance parent
