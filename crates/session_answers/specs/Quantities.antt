-- The ends of a quantity at each node of a graph, as rows tell them.
use Rattle.std.specs.Prelude.{◌≡◌, ◌<◌, ◌*◌, ℕ, [], List, length, Option, Some, None, pos}
use Rattle.row_pool.specs.declared.cell.Cell.{Cell}
use Rattle.row_pool.specs.declared.cell.Reach.TheVariants as reaches
use Rattle.row_pool.specs.declared.cell.Pair.{Pair}
use Rattle.row_pool.specs.Pool.{Pool, row_of}
use Rattle.row_pool.specs.Row.{cells_of}
use Rattle.row_pool.specs.Reach.{reach_of}
use Rattle.repair.specs.declared.slot.Slot.{Slot}
use Rattle.intervals.specs.declared.ends.Ends.{Ends}
use Rattle.intervals.specs.Ends.{FitsPair, ends_of, shifted}
use Rattle.solver.specs.Solver.{SolverLists}
use Rattle.solver.specs.Current.{IsCurrent}
use Rattle.session_answers.specs.declared.quantity.Quantity.{Quantity}
use Rattle.session_answers.specs.declared.quantity.Quantity.TheVariants.{BySource, Since}

-- the greatest differences of a node and another one, by the row from the first and that towards it
abbrev pub pair_by : List Cell → List Cell → ℕ → Pair
pair_by from to node = record { up = reach_of (cells_of from) node; down = reach_of (cells_of to) node }

-- the same by the rows of a slot, and none in either direction where there is no slot
abbrev pub pair_for : Option Slot → Pool → ℕ → Pair
pair_for None pool node = record { up = reaches.Never; down = reaches.Never }
pair_for (Some slot) pool node = pair_by (row_of pool slot.from) (row_of pool slot.to) node

-- the same of the source's reading
abbrev pub source_pair : SolverLists → ℕ → Pair
source_pair s node = pair_for s.kept.source s.pool node

-- the least and the greatest value at a node
abbrev pub ends_at : Quantity → ℕ → Ends
ends_at (BySource solver stamp) node = shifted (pos (stamp * 1000000000)) (ends_of (source_pair solver.now node))
ends_at (Since from to) node = ends_of (pair_by from.now to.now node)

-- an execution is held, and the source's rows tell of this node
pub record TellsTime (s : SolverLists) (node : ℕ) : Type 0 where
  pub current : IsCurrent s
  pub none : s.contradiction ≡ []
  pub below : node < length s.graph.nodes
  pub kept : s.kept.source ≡ None → ⊥
  pub fits : FitsPair (source_pair s node)

-- both rows tell of this node
pub record TellsSince (from to : List Cell) (node : ℕ) : Type 0 where
  pub from_inside : node < length from
  pub to_inside : node < length to
  pub fits : FitsPair (pair_by from to node)

-- what the quantity is taken from tells of this node
abbrev pub HasEnds : Quantity → ℕ → Type 0
HasEnds (BySource solver stamp) node = TellsTime solver.now node
HasEnds (Since from to) node = TellsSince from.now to.now node
