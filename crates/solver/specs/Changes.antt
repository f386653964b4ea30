-- What a call leaves as it was.
use Rattle.std.specs.Prelude.{◌≡◌, ◌≢◌, ℕ, ◌∷◌, [], Bool, true, false, List, All, AllPairs, length, slice_set, slice_index_or}
use Rattle.sync_graph.specs.Graph.{GraphLists}
use Rattle.row_pool.specs.Pool.{Pool, row_at, row_of, IsTakenRow, free_rows}
use Rattle.repair.specs.Slots.{all_slots, ChangesRowsOf}
use Rattle.solver.specs.Solver.{SolverLists}
use Rattle.solver.specs.Current.{IsCurrent}

-- the same nodes are kept with the same rows, no other row is changed, as many rows are free, there is as much room
-- as before, and all that is held is of the present graph
pub record KeepsSlots (old new : SolverLists) : Type 0 where
  pub slots : new.kept.slots ≡ old.kept.slots
  pub source : new.kept.source ≡ old.kept.source
  pub found : new.kept.room ≡ old.kept.room
  pub front : new.front ≡ old.front
  pub rows : ChangesRowsOf (all_slots old.kept) old.pool new.pool
  pub free : free_rows new.pool ≡ free_rows old.pool
  pub current : IsCurrent new

-- the graph, its values and the contradiction are as before
pub record KeepsAnswer (old new : SolverLists) : Type 0 where
  pub graph : new.graph ≡ old.graph
  pub earliest : new.earliest ≡ old.earliest
  pub contradiction : new.contradiction ≡ old.contradiction

-- what is known of the graph, and the room, stay, and all that is held is of the present graph
pub record StaysCurrent (old new : SolverLists) : Type 0 where
  pub answer : KeepsAnswer old new
  pub room : new.front ≡ old.front
  pub current : IsCurrent new

-- rows that are free may have other cells, and nothing else is changed
pub record LeavesTaken (old new : Pool) : Type 0 where
  pub width : new.width ≡ old.width
  pub count : length new.rows ≡ length old.rows
  pub taken : (k : ℕ) → (row_at new k).taken ≡ (row_at old k).taken
  pub cells : (k : ℕ) → IsTakenRow old k → row_of new k ≡ row_of old k
  pub free : free_rows new ≡ free_rows old

-- what is known of the graph, the slots with their rows, and the room stay, and all that is held is of the present graph
pub record LeavesAnswer (old new : SolverLists) : Type 0 where
  pub answer : KeepsAnswer old new
  pub kept : new.kept ≡ old.kept
  pub rows : LeavesTaken old.pool new.pool
  pub room : new.front ≡ old.front
  pub current : IsCurrent new

-- ---- arcs that go
-- these are numbers of arcs in force, each once
pub record AreInForce (g : GraphLists) (numbers : List ℕ) : Type 0 where
  pub each : All (λ k. slice_index_or g.in_force k false ≡ true) numbers
  pub differ : AllPairs (λ j k. j ≢ k) numbers

-- the flags with those of these numbers false
abbrev pub withdrawn : List Bool → List ℕ → List Bool
withdrawn flags [] = flags
withdrawn flags (k ∷ numbers) = withdrawn (slice_set flags k false) numbers

-- the arcs of these numbers are out of force, and nothing else of the graph is changed
pub record AreTakenOut (numbers : List ℕ) (old new : GraphLists) : Type 0 where
  pub nodes : new.nodes ≡ old.nodes
  pub arcs : new.arcs ≡ old.arcs
  pub in_force : new.in_force ≡ withdrawn old.in_force numbers
