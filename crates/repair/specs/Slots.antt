-- Nodes of which the rows are kept.
use Rattle.std.specs.Prelude.{◌≡◌, ◌≢◌, ℕ, ◌-◌, ◌<◌, ◌==◌, ◌∷◌, ◌++◌, [], replicate, Bool, true, List, length, Option, Some, None, find, All, AllPairs}
use Rattle.problem_model.specs.Parents.{IsRow}
use Rattle.problem_model.specs.Tables.{ArcTable, reversed_table, without}
use Rattle.sync_graph.specs.Graph.{GraphLists, table_of}
use Rattle.row_pool.specs.Row.{cells_of}
use Rattle.row_pool.specs.Pool.{Pool, row_at, row_of, IsTakenRow}
use Rattle.distances.specs.Changes.{AreBlank}
use Rattle.repair.specs.declared.slot.Slot.{Slot}

-- the slots that are there, in their order
abbrev pub slots_in : List (Option Slot) → List Slot
slots_in [] = []
slots_in (None ∷ rest) = slots_in rest
slots_in (Some slot ∷ rest) = slot ∷ slots_in rest

-- the slots of events in the order in which they were kept, that of the source, whether the rows are those of the graph,
-- the room, and the list that affected nodes are listed in
pub record KeptRows : Type 0 where
  pub slots : List Slot
  pub source : Option Slot
  pub present : Bool
  pub room : ℕ
  pub found : List ℕ

-- no slot is kept, the rows are those of the graph, and the room is 0
abbrev pub nothing_kept : KeptRows
nothing_kept = record { slots = []; source = None; present = true; room = 0; found = [] }

-- the same slots, of which the rows are those of the graph, or are not
abbrev pub with_presence : KeptRows → Bool → KeptRows
with_presence kept present = record { slots = kept.slots; source = kept.source; present = present; room = kept.room; found = kept.found }

-- the same slots with another room, and the list filled up with zeroes to that length
abbrev pub with_room : KeptRows → ℕ → KeptRows
with_room kept room = record { slots = kept.slots; source = kept.source; present = kept.present; room = room; found = kept.found ++ replicate (room - length kept.found) 0 }

-- the same slots with another list
abbrev pub with_found : KeptRows → List ℕ → KeptRows
with_found kept found = record { slots = kept.slots; source = kept.source; present = kept.present; room = kept.room; found = found }

-- all slots, that of the source before the others
abbrev pub behind : Option Slot → List Slot → List Slot
behind None slots = slots
behind (Some source) slots = source ∷ slots

abbrev pub all_slots : KeptRows → List Slot
all_slots kept = behind kept.source kept.slots

-- the slot of an event's node, if it is kept
abbrev pub slot_of : KeptRows → ℕ → Option Slot
slot_of kept p = find (λ slot. slot.node == p) kept.slots

-- both rows of the slot are taken, and they differ
pub record HasRows (pool : Pool) (slot : Slot) : Type 0 where
  pub from : IsTakenRow pool slot.from
  pub to : IsTakenRow pool slot.to
  pub two : slot.from ≢ slot.to

-- no row of one is a row of the other
pub record HaveOwnRows (slot other : Slot) : Type 0 where
  pub from_from : slot.from ≢ other.from
  pub from_to : slot.from ≢ other.to
  pub to_from : slot.to ≢ other.from
  pub to_to : slot.to ≢ other.to

-- the rows of the slots are taken, and no two of them are one
pub record AreOwn (pool : Pool) (slots : List Slot) : Type 0 where
  pub taken : All (HasRows pool) slots
  pub apart : AllPairs HaveOwnRows slots

abbrev pub AreOwnRows : KeptRows → Pool → Type 0
AreOwnRows kept pool = AreOwn pool (all_slots kept)

-- the rows of the slot are those from its node and towards it over these arcs, and a cell that is not known says no more
pub record IsRowsOf (nodes : ℕ) (table : ArcTable) (pool : Pool) (slot : Slot) : Type 0 where
  pub from : IsRow nodes table slot.node (cells_of (row_of pool slot.from))
  pub to : IsRow nodes (reversed_table table) slot.node (cells_of (row_of pool slot.to))
  pub blank_from : AreBlank (row_of pool slot.from)
  pub blank_to : AreBlank (row_of pool slot.to)

-- the rows of all slots are those of the graph
abbrev pub AreRowsOf : GraphLists → KeptRows → Pool → Type 0
AreRowsOf g kept pool = All (IsRowsOf (length g.nodes) (table_of g) pool) (all_slots kept)

-- they are those of the graph without one arc
abbrev pub AreRowsBut : GraphLists → ℕ → KeptRows → Pool → Type 0
AreRowsBut g arc kept pool = All (IsRowsOf (length g.nodes) (without (table_of g) arc) pool) (all_slots kept)

-- each slot's node is one of the graph
abbrev pub AreNodes : GraphLists → KeptRows → Type 0
AreNodes g kept = All (λ slot. slot.node < length g.nodes) (all_slots kept)

-- no row but those of these slots is changed, and each row stays taken or free
pub record ChangesRowsOf (slots : List Slot) (old new : Pool) : Type 0 where
  pub width : new.width ≡ old.width
  pub count : length new.rows ≡ length old.rows
  pub taken : (k : ℕ) → (row_at new k).taken ≡ (row_at old k).taken
  pub others : (k : ℕ) → All (λ slot. (slot.from ≢ k) × (slot.to ≢ k)) slots → row_of new k ≡ row_of old k
