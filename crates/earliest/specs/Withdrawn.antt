-- A withdrawal that is under way.
use Rattle.std.specs.Prelude.{◌≡◌, ℕ, ◌+◌, ◌*◌, ◌^◌, ◌<◌, ◌≤◌, ◌⊎◌, Bool, true, false, ℤ, pos, ◌≤ℤ◌, ◌<ℤ◌, List, ◌++◌, length, map, slice_index_or, slice_set, Option, Some, None, Contains}
use Rattle.problem_model.specs.Executions as bounds
use Rattle.problem_model.specs.Executions.{at}
use Rattle.problem_model.specs.Earliest.{IsEarliest, IsNonNegative}
use Rattle.problem_model.specs.Limits.{path_bits}
use Rattle.sync_graph.specs.declared.arc.Arc.{Arc}
use Rattle.sync_graph.specs.Graph.{GraphLists, table_of, unnamed, reaching, departing}
use Rattle.withdrawals.specs.Withdrawals.{IsExact, IsAffected, flagged_sum, flagged_count, LeavesFrom}
use Rattle.withdrawals.specs.Falls.{Falls, IsMarking, IsPoised, IsObeyedAfter, IsFalling}
use Rattle.earliest.specs.Values.{arcs_of}

-- the arcs in force and those removed, without their names
abbrev pub arcs_before : GraphLists → List Arc → List bounds.Arc
arcs_before g removed = arcs_of g ++ map unnamed removed

-- the values are the earliest execution of the arcs in force with those removed
abbrev pub IsEarliestWith : GraphLists → List Arc → List ℤ → Type 0
IsEarliestWith g removed values = IsEarliest (length g.nodes) (arcs_before g removed) values

-- a chain of arcs that the values meet exactly starts at the node, and its last arc is one of those removed
abbrev pub IsAffectedBy : GraphLists → List Arc → List ℤ → ℕ → Type 0
IsAffectedBy g removed values node = IsAffected (arcs_before g removed) (map unnamed removed) (at values) node

-- the flags have each affected node
abbrev pub FlagsAffected : GraphLists → List Arc → List ℤ → (ℕ → Bool) → Type 0
FlagsAffected g removed values flagged = (k : ℕ) → IsAffectedBy g removed values k → flagged k ≡ true

-- whichever flags have each affected node, a withdrawal takes at most two steps and, for each flagged node, five and two
-- for each arc in force that reaches or leaves it
abbrev pub TakesFewToFall : GraphLists → List Arc → List ℤ → ℕ → ℕ → Type 0
TakesFewToFall g removed values before after = (flagged : ℕ → Bool) → FlagsAffected g removed values flagged
    → after ≤ before + flagged_sum (length g.nodes) (λ k. 2 * (reaching g k + departing g k) + 5) flagged + 2

-- whichever flags have each affected node, it writes no more places of the list that it works in than nodes are flagged
abbrev pub ListsFewNodes : GraphLists → List Arc → List ℤ → List ℕ → List ℕ → Type 0
ListsFewNodes g removed values old new = (flagged : ℕ → Bool) → FlagsAffected g removed values flagged → LeavesFrom (flagged_count (length g.nodes) flagged) old new

-- whichever flags have each affected node, the value of each other node stays
abbrev pub ChangesFewValues : GraphLists → List Arc → List ℤ → List ℤ → Type 0
ChangesFewValues g removed old new = (flagged : ℕ → Bool) → FlagsAffected g removed old flagged → (k : ℕ) → flagged k ≡ false → at new k ≡ at old k

-- the key of a node that waits is how far it is to fall
abbrev pub waits_of : Option ℤ → Bool
waits_of None = false
waits_of (Some key) = true

abbrev pub fall_of : Option ℤ → ℤ
fall_of None = pos 0
fall_of (Some key) = key

abbrev pub waits_at : List (Option ℤ) → ℕ → Bool
waits_at front node = waits_of (slice_index_or front node None)

abbrev pub fall_at : List (Option ℤ) → ℕ → ℤ
fall_at front node = fall_of (slice_index_or front node None)

abbrev pub falls_of : List ℤ → List (Option ℤ) → Falls
falls_of values front = record { value = at values; waits = waits_at front; fall = fall_at front }

abbrev pub found_at : List ℕ → ℕ → ℕ
found_at found i = slice_index_or found i 0

-- the tail is marked and found
pub record IsMarkedTail (values : List ℤ) (a : Arc) (front front' : List (Option ℤ)) (found found' : List ℕ) (count count' : ℕ) : Type 0 where
  pub one_more : count' ≡ count + 1
  pub exact : IsExact (at values) (unnamed a)
  pub free : waits_at front a.from ≡ false
  pub front_is : front' ≡ slice_set front a.from (Some (at values a.from))
  pub found_is : found' ≡ slice_set found count a.from

-- nothing changes, since the tail is marked or the arc is not exact
pub record IsLeft (values : List ℤ) (a : Arc) (front front' : List (Option ℤ)) (found found' : List ℕ) (count count' : ℕ) : Type 0 where
  pub as_many : count' ≡ count
  pub front_is : front' ≡ front
  pub found_is : found' ≡ found
  pub why : IsExact (at values) (unnamed a) → waits_at front a.from ≡ true

-- what one arc adds to the search: nothing, or its tail
abbrev pub IsMarkedBy : List ℤ → Arc → List (Option ℤ) → List (Option ℤ) → List ℕ → List ℕ → ℕ → ℕ → Type 0
IsMarkedBy values a front front' found found' count count' = IsLeft values a front front' found found' count count' ⊎ IsMarkedTail values a front front' found found' count count'

-- values before a withdrawal: one for each node, none below 0 or above 2^118
pub record AreLow (nodes : ℕ) (values : List ℤ) : Type 0 where
  pub one_each : length values ≡ nodes
  pub non_negative : IsNonNegative (at values)
  pub low : (k : ℕ) → at values k ≤ℤ pos (2 ^ path_bits)

-- how far the search for affected nodes has come: the marks and the list of those found, of which the first so many are
-- done; each is to fall to 0
pub record IsFallMarking (g : GraphLists) (before gone : List bounds.Arc) (values : List ℤ) (front : List (Option ℤ)) (found : List ℕ) (count done : ℕ) : Type 0 where
  pub arcs : (j : ℕ) → (table_of g).in_force j ≡ true → Contains before ((table_of g).arc j)
  pub marking : IsMarking (length g.nodes) (table_of g) before gone (at values) (waits_at front) (found_at found) count done
  pub keys : (k : ℕ) → waits_at front k ≡ true → fall_at front k ≡ at values k
  pub room : length g.nodes ≤ length front
  pub found_each : length found ≡ length g.nodes
  pub below : done ≤ count

-- the node waits for a lesser fall than before
pub record IsLoweredTo (node : ℕ) (fall : ℤ) (front front' : List (Option ℤ)) : Type 0 where
  pub waits : waits_at front node ≡ true
  pub within : node < length front
  pub less : fall <ℤ fall_at front node
  pub front_is : front' ≡ slice_set front node (Some fall)

-- only nodes wait
abbrev pub OnlyNodesWait : ℕ → List (Option ℤ) → Type 0
OnlyNodesWait nodes front = (node : ℕ) → waits_at front node ≡ true → node < nodes

-- marked nodes wait at their old values; the first so many found are held by the arcs that lead from them to nodes that
-- rest
pub record IsPulledIn (g : GraphLists) (values : List ℤ) (front : List (Option ℤ)) (found : List ℕ) (count done : ℕ) : Type 0 where
  pub poised : IsPoised (table_of g) (pos 0) (at values) (falls_of values front)
  pub held : (i : ℕ) → i < done → (j : ℕ) → (table_of g).in_force j ≡ true → ((table_of g).arc j).from ≡ found_at found i → IsObeyedAfter (table_of g) (falls_of values front) j
  pub listed : (k : ℕ) → waits_at front k ≡ true → (i : ℕ) × (i < count) × (found_at found i ≡ k)
  pub marked : (i : ℕ) → i < count → (waits_at front (found_at found i) ≡ true) × (found_at found i < length g.nodes)
  pub room : length g.nodes ≤ length front

-- what holds between two pops
pub record IsFallingIn (g : GraphLists) (old values : List ℤ) (front : List (Option ℤ)) : Type 0 where
  pub top : ℤ
  pub falling : IsFalling (table_of g) top (at old) (falls_of values front)
  pub nodes : OnlyNodesWait (length g.nodes) front
  pub one_each : length values ≡ length g.nodes
  pub room : length g.nodes ≤ length front
