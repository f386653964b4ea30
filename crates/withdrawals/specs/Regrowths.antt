-- How a row is repaired once arcs are withdrawn: the cells whose paths had one of them are cleared, pulled from the
-- cells that are left, and settled. With arcs of 5 from node 0 to 1, of 2 from 0 to 2 and of -1 from 2 to 1 the path of
-- node 1 in the row from 0 has the last two: without the first nothing changes, without the last node 1 is pulled along
-- the first.
use Rattle.std.specs.Prelude.{◌≡◌, ◌≢◌, ℕ, zero, suc, ◌<◌, ◌⊎◌, Bool, true, false, ℤ, pos, ◌+ℤ◌, ◌-ℤ◌, ◌≤ℤ◌, List, length, slice_index_or, Contains}
use Rattle.problem_model.specs.Executions.{Arc}
use Rattle.problem_model.specs.Tables.{ArcTable, ObeysAll}
use Rattle.problem_model.specs.Parents.{Cells, no_parent, LeadsBack, IsReached}
use Rattle.problem_model.specs.RowPops.{IsUntouched, IsAsBefore}
use Rattle.problem_model.specs.Sums.{sum_to}
use Rattle.withdrawals.specs.Withdrawals.{flagged_sum}

-- the table with these arcs in force
abbrev pub earlier : ArcTable → (ℕ → Bool) → ArcTable
earlier table was = record { arc = table.arc; in_force = was }

-- the numbers whose arc equals one of these
abbrev pub are_equal_to : ArcTable → List Arc → ℕ → Type 0
are_equal_to table arcs j = Contains arcs (table.arc j)

-- the arcs in force were so before, and the others that were are removed
pub record IsShrunk (table : ArcTable) (was : ℕ → Bool) (removed : ℕ → Type 0) : Type 0 where
  pub left : (j : ℕ) → table.in_force j ≡ true → was j ≡ true
  pub gone : (j : ℕ) → was j ≡ true → (table.in_force j ≡ true) ⊎ removed j

-- after n steps by parents from k comes a parent that is removed
abbrev pub MeetsRemoved : ArcTable → (ℕ → Type 0) → ℕ → Cells → ℕ → ℕ → Type 0
MeetsRemoved table removed p row zero k = (k ≢ p) × removed (row.parent k)
MeetsRemoved table removed p row (suc n) k = (k ≢ p) × MeetsRemoved table removed p row n (table.arc (row.parent k)).from

-- a known cell whose path by parents has a removed arc
pub record IsAffectedIn (table : ArcTable) (removed : ℕ → Type 0) (p : ℕ) (row : Cells) (k : ℕ) : Type 0 where
  pub known : row.known k ≡ true
  pub steps : ℕ
  pub meets : MeetsRemoved table removed p row steps k

-- the cell of k is that of the row
abbrev pub IsSameAs : Cells → Cells → ℕ → Type 0
IsSameAs row c k = (c.known k ≡ row.known k) × (c.value k ≡ row.value k) × (c.parent k ≡ row.parent k)

-- the marked cells are cleared, and the others those of the row
pub record IsCleared (row c : Cells) (marked : ℕ → Bool) : Type 0 where
  pub cleared : (k : ℕ) → marked k ≡ true → c.known k ≡ false
  pub kept : (k : ℕ) → marked k ≡ false → IsSameAs row c k

-- while cells are marked: the first so many found are marked, are affected and no other is marked, and of the first so
-- many of these the children by arcs in force are marked
pub record IsMarkingIn (nodes : ℕ) (table : ArcTable) (removed : ℕ → Type 0) (p : ℕ) (row c : Cells) (marked : ℕ → Bool) (found : ℕ → ℕ) (count done : ℕ) : Type 0 where
  pub cells : IsCleared row c marked
  pub affected : (k : ℕ) → marked k ≡ true → IsAffectedIn table removed p row k
  pub within : (i : ℕ) → i < count → found i < nodes
  pub among : (i : ℕ) → i < count → marked (found i) ≡ true
  pub listed : (k : ℕ) → marked k ≡ true → (i : ℕ) × (i < count) × (found i ≡ k)
  pub counted : (each : ℕ → ℕ) → flagged_sum nodes each marked ≡ sum_to count (λ i. each (found i))
  pub children : (i : ℕ) → i < done
      → (k : ℕ) → k ≢ p → row.known k ≡ true → table.in_force (row.parent k) ≡ true → (table.arc (row.parent k)).from ≡ found i
      → marked k ≡ true

-- one more cell is found, and cleared
pub record IsFoundIn (c c' : Cells) (marked marked' : ℕ → Bool) (found found' : ℕ → ℕ) (count node : ℕ) : Type 0 where
  pub free : marked node ≡ false
  pub marked_now : marked' node ≡ true
  pub cleared : c'.known node ≡ false
  pub others : (k : ℕ) → k ≢ node → (marked' k ≡ marked k) × IsSameAs c c' k
  pub last : found' count ≡ node
  pub before : (i : ℕ) → i < count → found' i ≡ found i

-- the known cells whose parent is removed are marked, and so are the children of the marked
pub record AreMarksIn (table : ArcTable) (removed : ℕ → Type 0) (p : ℕ) (row : Cells) (marked : ℕ → Bool) : Type 0 where
  pub affected : (k : ℕ) → marked k ≡ true → IsAffectedIn table removed p row k
  pub seeds : (k : ℕ) → k ≢ p → row.known k ≡ true → removed (row.parent k) → marked k ≡ true
  pub closed : (k : ℕ) → k ≢ p → row.known k ≡ true → table.in_force (row.parent k) ≡ true → marked (table.arc (row.parent k)).from ≡ true → marked k ≡ true

-- what the cells that are left say of the arcs that are left: parents lead back to p, each distance is a bound of the
-- difference and is attained, and no arc between two of them shortens one
pub record IsRemnant (table : ArcTable) (p : ℕ) (c : Cells) : Type 0 where
  pub own : (c.known p ≡ true) × (c.value p ≡ pos 0) × (c.parent p ≡ no_parent)
  pub chains : (k : ℕ) → c.known k ≡ true → (n : ℕ) × LeadsBack table p c n k
  pub bound : (x : ℕ → ℤ) → ObeysAll table x → (k : ℕ) → c.known k ≡ true → (x k -ℤ x p) ≤ℤ c.value k
  pub attained : (k : ℕ) → c.known k ≡ true → (x : ℕ → ℤ) × ObeysAll table x × (x k -ℤ x p ≡ c.value k)
  pub along : (j : ℕ) → table.in_force j ≡ true → c.known (table.arc j).from ≡ true → c.known (table.arc j).to ≡ true
      → c.value (table.arc j).to ≤ℤ (c.value (table.arc j).from +ℤ (table.arc j).weight)

-- an arc from a cell that is left gives k a cell, and it waits
pub record IsPulled (table : ArcTable) (old c : Cells) (waits : ℕ → Bool) (k : ℕ) : Type 0 where
  pub unknown : old.known k ≡ false
  pub known : c.known k ≡ true
  pub waiting : waits k ≡ true
  pub in_force : table.in_force (c.parent k) ≡ true
  pub ends : (table.arc (c.parent k)).to ≡ k
  pub tail_known : old.known (table.arc (c.parent k)).from ≡ true
  pub value : c.value k ≡ old.value (table.arc (c.parent k)).from +ℤ (table.arc (c.parent k)).weight

-- the first so many found are pulled along all arcs from cells that are left
pub record IsPulling (table : ArcTable) (found : ℕ → ℕ) (count : ℕ) (old c : Cells) (waits : ℕ → Bool) : Type 0 where
  pub each : (k : ℕ) → IsUntouched old c waits k ⊎ IsPulled table old c waits k
  pub met : (i j : ℕ) → i < count
      → table.in_force j ≡ true → (table.arc j).to ≡ found i → old.known (table.arc j).from ≡ true
      → IsReached table c (old.value (table.arc j).from) j

-- and so are all that an arc in force leads to from the cells that are left
pub record IsRegrown (table : ArcTable) (old c : Cells) (waits : ℕ → Bool) : Type 0 where
  pub each : (k : ℕ) → IsUntouched old c waits k ⊎ IsPulled table old c waits k
  pub met : (j : ℕ)
      → table.in_force j ≡ true → old.known (table.arc j).from ≡ true → old.known (table.arc j).to ≡ false
      → IsReached table c (old.value (table.arc j).from) j

-- an arc from a known node that rests gives the node its cell
pub record IsGot (table : ArcTable) (node : ℕ) (c c' : Cells) (waits waits' : ℕ → Bool) : Type 0 where
  pub known : c'.known node ≡ true
  pub waiting : waits' node ≡ true
  pub in_force : table.in_force (c'.parent node) ≡ true
  pub ends : (table.arc (c'.parent node)).to ≡ node
  pub tail_known : c.known (table.arc (c'.parent node)).from ≡ true
  pub tail_rests : waits (table.arc (c'.parent node)).from ≡ false
  pub value : c'.value node ≡ c.value (table.arc (c'.parent node)).from +ℤ (table.arc (c'.parent node)).weight

-- the first so many of the arcs to the node are tried
pub record IsTrying (table : ArcTable) (node : ℕ) (entries : List ℕ) (count : ℕ) (c c' : Cells) (waits waits' : ℕ → Bool) : Type 0 where
  pub others : (k : ℕ) → k ≢ node → IsAsBefore c c' waits waits' k
  pub own : IsAsBefore c c' waits waits' node ⊎ IsGot table node c c' waits waits'
  pub low : c.known node ≡ true → c'.value node ≤ℤ c.value node
  pub met : (k : ℕ) → k < count → k < length entries
      → c.known (table.arc (slice_index_or entries k 0)).from ≡ true → waits (table.arc (slice_index_or entries k 0)).from ≡ false
      → (c'.known node ≡ true) × (c'.value node ≤ℤ (c.value (table.arc (slice_index_or entries k 0)).from +ℤ (table.arc (slice_index_or entries k 0)).weight))
