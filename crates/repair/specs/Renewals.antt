-- What becomes of kept rows, and the steps that it takes. Where node 0 is kept and arc 2 comes last in the example in
-- Facing of `distances`, its row 0, 5, 2 becomes 0, 1, 2, and the one towards it stays 0, unknown, unknown: one cell
-- differs, and no arc leaves node 1, so that this takes at most 2 + 4 steps.
use Rattle.std.specs.Prelude.{◌≡◌, ℕ, ◌+◌, ◌≤◌, List, length, sum_by, All}
use Rattle.sync_graph.specs.Graph.{GraphLists, table_of}
use Rattle.row_pool.specs.Pool.{Pool, row_of}
use Rattle.distances.specs.declared.side.Side.TheVariants.{From}
use Rattle.distances.specs.Searched.{Searched, nodes}
use Rattle.distances.specs.Changes.{steps_of_changes}
use Rattle.repair.specs.declared.slot.Slot.{Slot}
use Rattle.repair.specs.Slots.{IsRowsOf, ChangesRowsOf}

-- rows of a pool can be renewed by the search, which goes from nodes: they and the queue have room for all nodes
pub record CanRenew (s : Searched) (pool : Pool) (room : ℕ) : Type 0 where
  pub outward : s.side ≡ From
  pub rows : nodes s ≤ pool.width
  pub queue : nodes s ≤ room

-- the rows of these slots are those of the graph now, and nothing else was changed
pub record Renews (g : GraphLists) (slots : List Slot) (old new : Pool) : Type 0 where
  pub rows : All (IsRowsOf (length g.nodes) (table_of g) new) slots
  pub changes : ChangesRowsOf slots old new

-- two for each of both rows, and for each node whose cell differs in its value or in whether it is known two and the arcs in force that
-- leave it, or arrive at it in the row towards the slot's node
abbrev pub insertion_steps : GraphLists → Pool → Pool → Slot → ℕ
insertion_steps g old new slot =
    steps_of_changes g.leaving (row_of old slot.from) (row_of new slot.from) + steps_of_changes g.arriving (row_of old slot.to) (row_of new slot.to) + 4

-- the steps before and after are no further apart than that for all slots
abbrev pub TakesFewSteps : GraphLists → List Slot → Pool → Pool → ℕ → ℕ → Type 0
TakesFewSteps g slots old new before after = after ≤ (before + sum_by (insertion_steps g old new) slots)

-- the rows of these slots are repaired in few steps
pub record Repairs (g : GraphLists) (slots : List Slot) (old new : Pool) (before after : ℕ) : Type 0 where
  pub renews : Renews g slots old new
  pub few : TakesFewSteps g slots old new before after
