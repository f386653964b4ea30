-- The making and the repair of a row: waiting nodes are popped by least reduced cost, and their arcs relaxed.
use Rattle.std.specs.Prelude.{◌≡◌, ◌≢◌, ℕ, ◌+◌, ◌*◌, ◌<◌, ◌≤◌, ◌⊎◌, Bool, true, false, ℤ, pos, ◌+ℤ◌, ◌-ℤ◌, ◌≤ℤ◌, ◌<ℤ◌, List, length, slice_index_or}
use Rattle.problem_model.specs.Tables.{ArcTable, ObeysAll}
use Rattle.problem_model.specs.Parents.{Cells, no_parent, IsTight, LeadsBack, IsRelaxed, IsReached}
use Rattle.problem_model.specs.Sums.{done_sum}

-- the reduced cost: a distance less the node's potential, its value in an execution, so along an arc it never falls
abbrev pub reduced : (ℕ → ℤ) → Cells → ℕ → ℤ
reduced e c k = c.value k -ℤ e k

-- the node is newly known, or nearer than in the old row
abbrev pub IsFresh : Cells → Cells → ℕ → Type 0
IsFresh old c k = (old.known k ≡ false) ⊎ (c.value k <ℤ old.value k)

-- nothing can bring the node nearer: its reduced cost is at most the top, or some execution attains its distance
abbrev pub IsFinal : ArcTable → ℕ → (ℕ → ℤ) → ℤ → Cells → ℕ → Type 0
IsFinal table p e top c k = (reduced e c k ≤ℤ top) ⊎ ((x : ℕ → ℤ) × ObeysAll table x × (x k -ℤ x p ≡ c.value k))

-- the node does not wait, and its cell is that of the old row
pub record IsUntouched (old c : Cells) (waits : ℕ → Bool) (k : ℕ) : Type 0 where
  pub known : c.known k ≡ old.known k
  pub value : c.value k ≡ old.value k
  pub parent : c.parent k ≡ old.parent k
  pub rests : waits k ≡ false

-- the parent gives the node, which is not p, its value; the tail rests, is final, and is of lower rank if it is fresh
pub record IsGiven (table : ArcTable) (p : ℕ) (e : ℕ → ℤ) (top : ℤ) (rank : ℕ → ℕ) (old c : Cells) (waits : ℕ → Bool) (k : ℕ) : Type 0 where
  pub away : k ≢ p
  pub tight : IsTight table c k
  pub rests : waits (table.arc (c.parent k)).from ≡ false
  pub final : IsFinal table p e top c (table.arc (c.parent k)).from
  pub ranked : IsFresh old c (table.arc (c.parent k)).from → rank (table.arc (c.parent k)).from < rank k

-- the node has a new cell: it is known and fresh, and it is p itself or given by its parent
pub record IsTouched (table : ArcTable) (p : ℕ) (e : ℕ → ℤ) (top : ℤ) (rank : ℕ → ℕ) (old c : Cells) (waits : ℕ → Bool) (k : ℕ) : Type 0 where
  pub known : c.known k ≡ true
  pub fresh : IsFresh old c k
  pub given : (k ≡ p) ⊎ IsGiven table p e top rank old c waits k

-- what holds between two pops, over the old row: all unknown for a new row, the row before for a repair. The top is the
-- reduced cost of the last popped node; ranks rise along parents that begin at nodes with new cells
pub record IsRelaxing (table : ArcTable) (p : ℕ) (e : ℕ → ℤ) (top : ℤ) (rank : ℕ → ℕ) (old c : Cells) (waits : ℕ → Bool) : Type 0 where
  pub own : (c.known p ≡ true) × (c.value p ≡ pos 0) × (c.parent p ≡ no_parent)
  pub each : (k : ℕ) → IsUntouched old c waits k ⊎ IsTouched table p e top rank old c waits k
  pub above : (k : ℕ) → waits k ≡ true → top ≤ℤ reduced e c k
  pub below : (k : ℕ) → waits k ≡ false → c.known k ≡ true → IsFresh old c k → reduced e c k ≤ℤ top
  pub met : (j : ℕ) → table.in_force j ≡ true → c.known (table.arc j).from ≡ true → waits (table.arc j).from ≡ false → IsRelaxed table c j
  pub bound : (x : ℕ → ℤ) → ObeysAll table x → (k : ℕ) → c.known k ≡ true → (x k -ℤ x p) ≤ℤ c.value k

-- the cell is as before, but that the popped node waits no more
pub record IsSameCell (node : ℕ) (c c' : Cells) (waits waits' : ℕ → Bool) (k : ℕ) : Type 0 where
  pub known : c'.known k ≡ c.known k
  pub value : c'.value k ≡ c.value k
  pub parent : c'.parent k ≡ c.parent k
  pub waiting : ((k ≡ node) × (waits' k ≡ false)) ⊎ ((k ≢ node) × (waits' k ≡ waits k))

-- an arc from the popped node gives k a shorter distance
pub record IsNearer (table : ArcTable) (node : ℕ) (c c' : Cells) (waits' : ℕ → Bool) (k : ℕ) : Type 0 where
  pub in_force : table.in_force (c'.parent k) ≡ true
  pub begins : (table.arc (c'.parent k)).from ≡ node
  pub ends : (table.arc (c'.parent k)).to ≡ k
  pub known : c'.known k ≡ true
  pub waiting : waits' k ≡ true
  pub value : c'.value k ≡ c.value node +ℤ (table.arc (c'.parent k)).weight
  pub nearer : (c.known k ≡ false) ⊎ (c'.value k <ℤ c.value k)

-- one pop of the node: each cell is as before or nearer by an arc from it, and its arcs are relaxed
pub record IsRowStep (table : ArcTable) (node : ℕ) (c c' : Cells) (waits waits' : ℕ → Bool) : Type 0 where
  pub each : (k : ℕ) → IsSameCell node c c' waits waits' k ⊎ IsNearer table node c c' waits' k
  pub met : (j : ℕ) → table.in_force j ≡ true → (table.arc j).from ≡ node → IsReached table c' (c.value node) j

-- the first so many of the popped node's arcs are relaxed
pub record IsSpread (table : ArcTable) (node : ℕ) (entries : List ℕ) (count : ℕ) (c c' : Cells) (waits waits' : ℕ → Bool) : Type 0 where
  pub each : (k : ℕ) → IsSameCell node c c' waits waits' k ⊎ IsNearer table node c c' waits' k
  pub met : (k : ℕ) → k < count → k < length entries → IsReached table c' (c.value node) (slice_index_or entries k 0)

-- the cell of k is as before, and whether it waits
abbrev pub IsAsBefore : Cells → Cells → (ℕ → Bool) → (ℕ → Bool) → ℕ → Type 0
IsAsBefore c c' waits waits' k = (c'.known k ≡ c.known k) × (c'.value k ≡ c.value k) × (c'.parent k ≡ c.parent k) × (waits' k ≡ waits k)

-- the node has this cell and waits, and the others are as before
pub record IsPut (c c' : Cells) (waits waits' : ℕ → Bool) (node : ℕ) (value : ℤ) (parent : ℕ) : Type 0 where
  pub known_is : c'.known node ≡ true
  pub value_is : c'.value node ≡ value
  pub parent_is : c'.parent node ≡ parent
  pub waiting : waits' node ≡ true
  pub others : (k : ℕ) → k ≢ node → IsAsBefore c c' waits waits' k

-- the candidate is by an arc from a known node of the old row
pub record IsArcCandidate (table : ArcTable) (p : ℕ) (old : Cells) (node : ℕ) (value : ℤ) (parent : ℕ) : Type 0 where
  pub own : (old.known p ≡ true) × (old.value p ≡ pos 0) × (old.parent p ≡ no_parent)
  pub in_force : table.in_force parent ≡ true
  pub ends : (table.arc parent).to ≡ node
  pub tail_known : old.known (table.arc parent).from ≡ true
  pub value_is : value ≡ old.value (table.arc parent).from +ℤ (table.arc parent).weight

-- a candidate for the cell of one node, over a row that all other arcs leave as it is; for a new row it is 0 at p
pub record IsCandidate (table : ArcTable) (p : ℕ) (old : Cells) (node : ℕ) (value : ℤ) (parent : ℕ) : Type 0 where
  pub from : ((node ≡ p) × (value ≡ pos 0) × (parent ≡ no_parent) × ((k : ℕ) → old.known k ≡ false)) ⊎ IsArcCandidate table p old node value parent
  pub met : (j : ℕ)
      → table.in_force j ≡ true → old.known (table.arc j).from ≡ true
      → (IsRelaxed table old j) ⊎ (((table.arc j).to ≡ node) × (value ≤ℤ (old.value (table.arc j).from +ℤ (table.arc j).weight)))
  pub bound : (x : ℕ → ℤ) → ObeysAll table x → (k : ℕ) → old.known k ≡ true → (x k -ℤ x p) ≤ℤ old.value k
  pub chains : (k : ℕ) → old.known k ≡ true → (n : ℕ) × LeadsBack table p old n k

-- known values are at most a base and so much for each rank
abbrev pub IsHigh : ℕ → ℕ → (ℕ → ℕ) → Cells → Type 0
IsHigh base heavy rank c = (k : ℕ) → c.known k ≡ true → c.value k ≤ℤ pos (base + rank k * heavy)

-- what holds between two pops, with what bounds the numbers
pub record IsUnderWay (nodes : ℕ) (table : ArcTable) (p : ℕ) (e : ℕ → ℤ) (base heavy : ℕ) (old c : Cells) (waits : ℕ → Bool) : Type 0 where
  pub top : ℤ
  pub rank : ℕ → ℕ
  pub relaxing : IsRelaxing table p e top rank old c waits
  pub ranks : (k : ℕ) → rank k ≤ done_sum nodes (λ _. 1) old c waits
  pub high : IsHigh base heavy rank c
  pub past : (k : ℕ) → nodes ≤ k → c.known k ≡ false
