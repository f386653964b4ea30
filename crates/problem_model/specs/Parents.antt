-- Rows whose cells name the last arc of a path that has their value.
use Rattle.std.specs.Prelude.{◌≡◌, ◌≢◌, ℕ, zero, suc, ◌<◌, ◌≤◌, Bool, true, false, ℤ, pos, ◌+ℤ◌, ◌≤ℤ◌}
use Rattle.problem_model.specs.Tables.{ArcTable}

-- what a row says of each node: whether it has a distance, the distance, and the number of its parent arc
pub record Cells : Type 0 where
  pub known : ℕ → Bool
  pub value : ℕ → ℤ
  pub parent : ℕ → ℕ

-- the number that stands for no arc: the greatest of 32 bits
abbrev pub no_parent : ℕ
no_parent = 4294967295

-- the head of arc j is known, and no farther than the arc from a tail at this distance
abbrev pub IsReached : ArcTable → Cells → ℤ → ℕ → Type 0
IsReached table c base j = (c.known (table.arc j).to ≡ true) × (c.value (table.arc j).to ≤ℤ (base +ℤ (table.arc j).weight))

-- the head of arc j is known, and arc j shortens no distance
abbrev pub IsRelaxed : ArcTable → Cells → ℕ → Type 0
IsRelaxed table c j = IsReached table c (c.value (table.arc j).from) j

-- the parent of k is an arc in force to k, from a known node, and gives k its value
pub record IsTight (table : ArcTable) (c : Cells) (k : ℕ) : Type 0 where
  pub in_force : table.in_force (c.parent k) ≡ true
  pub ends : (table.arc (c.parent k)).to ≡ k
  pub tail_known : c.known (table.arc (c.parent k)).from ≡ true
  pub value : c.value k ≡ c.value (table.arc (c.parent k)).from +ℤ (table.arc (c.parent k)).weight

-- following parents from k comes to p in n steps
abbrev pub LeadsBack : ArcTable → ℕ → Cells → ℕ → ℕ → Type 0
LeadsBack table p c zero k = k ≡ p
LeadsBack table p c (suc n) k = (k ≢ p) × IsTight table c k × LeadsBack table p c n (table.arc (c.parent k)).from

-- a finished row of distances from p, which has 0 and no parent: relaxing any arc in force changes nothing, every known
-- node goes back to p by its parents without passing all nodes, and no cells behind those of nodes are known
pub record IsRow (nodes : ℕ) (table : ArcTable) (p : ℕ) (c : Cells) : Type 0 where
  pub own : (c.known p ≡ true) × (c.value p ≡ pos 0) × (c.parent p ≡ no_parent)
  pub along : (j : ℕ) → table.in_force j ≡ true → c.known (table.arc j).from ≡ true → IsRelaxed table c j
  pub back : (k : ℕ) → c.known k ≡ true → (n : ℕ) × (n < nodes) × LeadsBack table p c n k
  pub past : (k : ℕ) → nodes ≤ k → c.known k ≡ false
