-- Two rows of a solver's pool that are lent for a question.
use Rattle.std.specs.Prelude.{◌≢◌, ℕ, length, All}
use Rattle.problem_model.specs.Parents.{IsRow}
use Rattle.problem_model.specs.Tables.{reversed_table}
use Rattle.sync_graph.specs.Graph.{table_of}
use Rattle.row_pool.specs.Row.{cells_of}
use Rattle.row_pool.specs.Pool.{row_of, IsTakenRow}
use Rattle.repair.specs.declared.slot.Slot.{Slot}
use Rattle.repair.specs.Slots.{all_slots}
use Rattle.solver.specs.Solver.{SolverLists}
use Rattle.solver.specs.declared.loan.Lent.{Lent}

-- the row of this number is of no slot
abbrev pub IsOfNoSlot : SolverLists → ℕ → Type 0
IsOfNoSlot s k = All (λ slot. (slot.from ≢ k) × (slot.to ≢ k)) (all_slots s.kept)

-- both rows are taken, they differ, and no slot has one of them
pub record IsLent (lent : Lent) (s : SolverLists) : Type 0 where
  pub from : IsTakenRow s.pool lent.from
  pub to : IsTakenRow s.pool lent.to
  pub two : lent.from ≢ lent.to
  pub apart_from : IsOfNoSlot s lent.from
  pub apart_to : IsOfNoSlot s lent.to

-- they are the row of the distances from a node and the row towards it, in the present graph
pub record AreRowsFor (p : ℕ) (lent : Lent) (s : SolverLists) : Type 0 where
  pub from : IsRow (length s.graph.nodes) (table_of s.graph) p (cells_of (row_of s.pool lent.from))
  pub to : IsRow (length s.graph.nodes) (reversed_table (table_of s.graph)) p (cells_of (row_of s.pool lent.to))

-- both rows as those of a node's slot
abbrev pub lent_slot : ℕ → Lent → Slot
lent_slot p lent = record { node = p; from = lent.from; to = lent.to }
