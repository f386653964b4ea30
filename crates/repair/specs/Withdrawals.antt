-- Kept rows once arcs are withdrawn, and the steps that it takes. Where arc 2 of the example in Renewals is withdrawn
-- again, node 1 alone is affected, in the row from node 0 alone, and arc 0 alone is in force at it: this takes at most
-- 2 + 7 + 2 steps, and both rows are as at first.
use Rattle.std.specs.Prelude.{◌≡◌, ℕ, ◌+◌, ◌*◌, ◌≤◌, Bool, false, true, List, length, sum_by, All}
use Rattle.withdrawals.specs.Withdrawals.{flagged_sum, flagged_count, LeavesFrom}
use Rattle.sync_graph.specs.declared.arc.Arc.{Arc}
use Rattle.sync_graph.specs.Graph.{GraphLists, table_of, reaching, departing}
use Rattle.row_pool.specs.Row.{cell_at}
use Rattle.row_pool.specs.Pool.{Pool, row_of}
use Rattle.repair.specs.RowWithdrawals.{AreWithdrawn, IsAffectedFrom, IsAffectedTo}
use Rattle.repair.specs.declared.slot.Slot.{Slot}
use Rattle.repair.specs.Slots.{IsRowsOf}
use Rattle.repair.specs.Renewals.{Renews}

-- the rows of these slots were those of the graph before the arcs were withdrawn
abbrev pub WereRows : GraphLists → List Arc → Pool → List Slot → Type 0
WereRows g removed pool slots = (before : GraphLists) × AreWithdrawn before removed g × All (IsRowsOf (length before.nodes) (table_of before) pool) slots

-- flags by the number of a row and a node: in both rows of the slot they mark each node whose path by parents has a
-- removed arc
pub record MarksAffected (g : GraphLists) (removed : List Arc) (pool : Pool) (marks : ℕ → ℕ → Bool) (slot : Slot) : Type 0 where
  pub from : (k : ℕ) → IsAffectedFrom g removed slot.node (row_of pool slot.from) k → marks slot.from k ≡ true
  pub to : (k : ℕ) → IsAffectedTo g removed slot.node (row_of pool slot.to) k → marks slot.to k ≡ true

-- two, and for each marked node five and two for each arc in force that reaches or leaves it
abbrev pub steps_of_marked : GraphLists → (ℕ → Bool) → ℕ
steps_of_marked g marked = flagged_sum (length g.nodes) (λ k. 2 * (reaching g k + departing g k) + 5) marked + 2

-- so many for each row of a slot
abbrev pub withdrawal_steps : GraphLists → (ℕ → ℕ → Bool) → Slot → ℕ
withdrawal_steps g marks slot = steps_of_marked g (marks slot.from) + steps_of_marked g (marks slot.to)

-- the steps before and after are no further apart than that for all slots, whichever flags mark the affected nodes of
-- each row
abbrev pub TakesFewToWithdraw : GraphLists → List Arc → List Slot → Pool → ℕ → ℕ → Type 0
TakesFewToWithdraw g removed slots old before after =
    (marks : ℕ → ℕ → Bool) → All (MarksAffected g removed old marks) slots → after ≤ (before + sum_by (withdrawal_steps g marks) slots)

-- in each row of the slot at most so many nodes are marked
pub record AreMarkedAtMost (g : GraphLists) (marks : ℕ → ℕ → Bool) (most : ℕ) (slot : Slot) : Type 0 where
  pub from : flagged_count (length g.nodes) (marks slot.from) ≤ most
  pub to : flagged_count (length g.nodes) (marks slot.to) ≤ most

-- of the list that affected nodes are listed in, each place is as before from the greatest number of marked nodes in one
-- row on, whichever flags mark the affected nodes of each row
abbrev pub WritesFewPlaces : GraphLists → List Arc → List Slot → Pool → List ℕ → List ℕ → Type 0
WritesFewPlaces g removed slots pool old new =
    (marks : ℕ → ℕ → Bool) (most : ℕ) → All (MarksAffected g removed pool marks) slots → All (AreMarkedAtMost g marks most) slots → LeavesFrom most old new

-- in both rows of the slot the cell of each node that is not marked is as before
pub record LeavesCells (marks : ℕ → ℕ → Bool) (old new : Pool) (slot : Slot) : Type 0 where
  pub from : (k : ℕ) → marks slot.from k ≡ false → cell_at (row_of new slot.from) k ≡ cell_at (row_of old slot.from) k
  pub to : (k : ℕ) → marks slot.to k ≡ false → cell_at (row_of new slot.to) k ≡ cell_at (row_of old slot.to) k

-- and so it is whichever flags mark the affected nodes of each row
abbrev pub ChangesFewCells : GraphLists → List Arc → List Slot → Pool → Pool → Type 0
ChangesFewCells g removed slots old new = (marks : ℕ → ℕ → Bool) → All (MarksAffected g removed old marks) slots → All (LeavesCells marks old new) slots

-- the rows of these slots are repaired in few steps, and few cells and few places of the list are written
pub record WithdrawsRows (g : GraphLists) (removed : List Arc) (slots : List Slot) (old new : Pool) (found found' : List ℕ) (before after : ℕ) : Type 0 where
  pub renews : Renews g slots old new
  pub few : TakesFewToWithdraw g removed slots old before after
  pub cells : ChangesFewCells g removed slots old new
  pub places : WritesFewPlaces g removed slots old found found'
