-- The insertion of an arc into the earliest execution: the arc asks its tail to rise, raises are given out, the
-- greatest first, and a node that got its raise asks the tails of the arcs that arrive at it.
use Rattle.std.specs.Prelude.{◌≡◌, ◌≢◌, ℕ, ◌<◌, ◌≤◌, ◌⊎◌, true, ℤ, pos, ◌+ℤ◌, ◌-ℤ◌, ◌≤ℤ◌, ◌<ℤ◌, List, [], ◌∷◌, length, slice_index_or}
use Rattle.problem_model.specs.Executions.{Arc}
use Rattle.problem_model.specs.Paths.{sum_of}
use Rattle.problem_model.specs.Earliest.{IsNonNegative}
use Rattle.problem_model.specs.Tables.{ArcTable, ObeysAll}
use Rattle.problem_model.specs.Sums.{risen_sum}

-- the values, the raises that wait (0 for none), and the number of the arc that asked for each raise
pub record Raises : Type 0 where
  pub value : ℕ → ℤ
  pub raise : ℕ → ℤ
  pub parent : ℕ → ℕ

-- with the raise that waits, the tail of the arc is as late as the head asks
abbrev pub IsMet : ArcTable → Raises → ℕ → Type 0
IsMet table s j = (s.value (table.arc j).to -ℤ (table.arc j).weight) ≤ℤ (s.value (table.arc j).from +ℤ s.raise (table.arc j).from)

-- the node has got its raise, which was at least the greatest that waits now
pub record IsLifted (top : ℤ) (old : ℕ → ℤ) (s : Raises) (k : ℕ) : Type 0 where
  pub rests : s.raise k ≡ pos 0
  pub risen : old k <ℤ s.value k
  pub enough : (old k +ℤ top) ≤ℤ s.value k

-- what holds between two pops: raises up to the top wait, each node has its old value or has got its raise, arcs to nodes
-- where no raise waits are met, and nothing exceeds what an execution without a value below 0 has
pub record IsRaising (table : ArcTable) (head : ℕ) (first top : ℤ) (old : ℕ → ℤ) (s : Raises) : Type 0 where
  pub from_zero : (k : ℕ) → pos 0 ≤ℤ s.raise k
  pub below_top : (k : ℕ) → s.raise k ≤ℤ top
  pub below_first : top ≤ℤ first
  pub head_kept : s.value head ≡ old head
  pub each : (k : ℕ) → (s.value k ≡ old k) ⊎ IsLifted top old s k
  pub high : (k : ℕ) → s.value k ≤ℤ (old k +ℤ first)
  pub met : (j : ℕ) → table.in_force j ≡ true → s.raise (table.arc j).to ≡ pos 0 → IsMet table s j
  pub least : (y : ℕ → ℤ) → ObeysAll table y → IsNonNegative y → (k : ℕ) → (s.value k +ℤ s.raise k) ≤ℤ y k

-- the raise of k is as before, but that the popped node's is given
pub record IsKeptRaise (node : ℕ) (s s' : Raises) (k : ℕ) : Type 0 where
  pub raise : ((k ≡ node) × (s'.raise k ≡ pos 0)) ⊎ ((k ≢ node) × (s'.raise k ≡ s.raise k))
  pub parent : s'.parent k ≡ s.parent k

-- an arc from k to the popped node asks k for a greater raise
pub record IsAsked (table : ArcTable) (node : ℕ) (s s' : Raises) (k : ℕ) : Type 0 where
  pub in_force : table.in_force (s'.parent k) ≡ true
  pub begins : (table.arc (s'.parent k)).from ≡ k
  pub ends : (table.arc (s'.parent k)).to ≡ node
  pub equal : s'.value k +ℤ s'.raise k ≡ s'.value node -ℤ (table.arc (s'.parent k)).weight
  pub positive : pos 0 <ℤ s'.raise k
  pub greater : (k ≡ node) ⊎ (s.raise k <ℤ s'.raise k)

-- one pop: the node gets its raise, and each arc that arrives at it is met
pub record IsRaiseStep (table : ArcTable) (node : ℕ) (s s' : Raises) : Type 0 where
  pub lifted : s'.value node ≡ s.value node +ℤ s.raise node
  pub others : (k : ℕ) → k ≢ node → s'.value k ≡ s.value k
  pub each : (k : ℕ) → IsKeptRaise node s s' k ⊎ IsAsked table node s s' k
  pub met : (j : ℕ) → table.in_force j ≡ true → (table.arc j).to ≡ node → IsMet table s' j

-- where the chain goes on, the node has risen
abbrev pub ChainGoesOn : (ℕ → ℤ) → Raises → ℕ → List Arc → Type 0
ChainGoesOn old s k [] = Unit {0}
ChainGoesOn old s k (a ∷ steps) = old k <ℤ s.value k

-- the steps are the parents' arcs, from k to the head
abbrev pub FollowsParents : ArcTable → (ℕ → ℤ) → Raises → ℕ → ℕ → List Arc → Type 0
FollowsParents table old s head k [] = k ≡ head
FollowsParents table old s head k (a ∷ steps) =
    (table.in_force (s.parent k) ≡ true) × (table.arc (s.parent k) ≡ a) × (a.from ≡ k) × ChainGoesOn old s a.to steps × FollowsParents table old s head a.to steps

-- parents lead from k to the head; the value that k rises to and their weights make the head's old value; they are at
-- most one more than the nodes that have risen. Where the head itself is to rise, this is a contradiction
pub record HasChain (nodes : ℕ) (table : ArcTable) (old : ℕ → ℤ) (s : Raises) (head k : ℕ) : Type 0 where
  pub first : Arc
  pub rest : List Arc
  pub follows : FollowsParents table old s head k (first ∷ rest)
  pub sum : s.value k +ℤ s.raise k +ℤ sum_of (first ∷ rest) ≡ old head
  pub short : length rest ≤ risen_sum nodes (λ _. 1) old s.value

-- each node that waits or has risen has such a chain
abbrev pub HaveChains : ℕ → ArcTable → (ℕ → ℤ) → Raises → ℕ → Type 0
HaveChains nodes table old s head = (k : ℕ) → (pos 0 <ℤ s.raise k) ⊎ (old k <ℤ s.value k) → HasChain nodes table old s head k

-- the first raise: it waits at the tail of the new arc, and nothing else does
pub record IsFirstRaise (table : ArcTable) (new : ℕ) (r : ℤ) (old : ℕ → ℤ) (s : Raises) : Type 0 where
  pub value : (k : ℕ) → s.value k ≡ old k
  pub raise : s.raise (table.arc new).from ≡ r
  pub others : (k : ℕ) → k ≢ (table.arc new).from → s.raise k ≡ pos 0
  pub parent : s.parent (table.arc new).from ≡ new
  pub equal : r ≡ old (table.arc new).to -ℤ (table.arc new).weight -ℤ old (table.arc new).from
  pub positive : pos 0 <ℤ r

-- the popped node has its raise, and the first so many of the arcs that arrive at it are met
pub record IsAsking (table : ArcTable) (node : ℕ) (entries : List ℕ) (count : ℕ) (s s' : Raises) : Type 0 where
  pub lifted : s'.value node ≡ s.value node +ℤ s.raise node
  pub others : (k : ℕ) → k ≢ node → s'.value k ≡ s.value k
  pub each : (k : ℕ) → IsKeptRaise node s s' k ⊎ IsAsked table node s s' k
  pub met : (m : ℕ) → m < count → m < length entries → IsMet table s' (slice_index_or entries m 0)

-- the node has this raise and parent, and all else is as before
pub record IsRaisedTo (s s' : Raises) (node : ℕ) (r : ℤ) (parent : ℕ) : Type 0 where
  pub value : (k : ℕ) → s'.value k ≡ s.value k
  pub raise : s'.raise node ≡ r
  pub parent_is : s'.parent node ≡ parent
  pub others : (k : ℕ) → k ≢ node → (s'.raise k ≡ s.raise k) × (s'.parent k ≡ s.parent k)
