-- A heap: a list of nodes as a binary tree. Its root is at place 0, and the places 2p + 1 and 2p + 2 are below place p.
-- It stands in the view and the invariant of `Frontier`; no clause of a call that the crate hands out cites it.
use Rattle.std.specs.Prelude.{◌≡◌, ◌≢◌, ℕ, ◌-◌, ◌/◌, ◌<◌, ◌≤◌, ◌^◌, ◌==◌, if◌then◌else◌, List, [], ◌∷◌, length, ℤ, pos, Option, Some, None, unwrap_or, slice_index_or}
use Rattle.frontier.specs.Keys.{Waits, IsFirstKey}

-- the place of a node that does not wait
abbrev pub nowhere : ℕ
nowhere = 2 ^ 32 - 1

-- the keys by node that the table of keys and the one of places say: a node without a place does not wait
unfoldable pub waiting_keys : List ℤ → List ℕ → List (Option ℤ)
waiting_keys [] places = []
waiting_keys (key ∷ keys) [] = []
waiting_keys (key ∷ keys) (place ∷ places) = (if place == nowhere then None else Some key) ∷ waiting_keys keys places

-- the node at a place
abbrev pub heap_node : List ℕ → ℕ → ℕ
heap_node heap place = slice_index_or heap place 0

-- the place of a node
abbrev pub heap_place : List ℕ → ℕ → ℕ
heap_place places node = slice_index_or places node 0

-- the place above another
abbrev pub above : ℕ → ℕ
above place = (place - 1) / 2

-- the place is one of the two below another
abbrev pub IsChildPlace : ℕ → ℕ → Type 0
IsChildPlace place over = (0 < place) × (above place ≡ over)

-- the key of a node, 0 where it does not wait
abbrev pub waiting_key : List (Option ℤ) → ℕ → ℤ
waiting_key keys node = unwrap_or (slice_index_or keys node None) (pos 0)

-- of two nodes the one comes out no later than the other, by the table of keys
abbrev pub ComesOutFirst : List ℤ → ℕ → ℕ → Type 0
ComesOutFirst keys node other = IsFirstKey (slice_index_or keys node (pos 0)) node (slice_index_or keys other (pos 0)) other

-- the node waits
abbrev pub IsWaiting : List (Option ℤ) → ℕ → Type 0
IsWaiting keys node = (key : ℤ) × Waits keys node key

-- the node comes out no later than the other
abbrev pub IsAhead : List (Option ℤ) → ℕ → ℕ → Type 0
IsAhead keys node other = IsFirstKey (waiting_key keys node) node (waiting_key keys other) other

-- the heap holds the nodes that wait, each once and at its place, and none is below one that comes out after it: of the
-- keys 4, none, 2, 2 one is 2, 0, 3, with the places 1, any, 0, 2
pub record IsHeap (keys : List (Option ℤ)) (heap places : List ℕ) : Type 0 where
  pub room : length keys ≤ length places
  pub ordered : (place : ℕ) → place < length heap → 0 < place → IsAhead keys (heap_node heap (above place)) (heap_node heap place)
  pub waiting : (place : ℕ) → place < length heap → IsWaiting keys (heap_node heap place)
  pub placed : (place : ℕ) → place < length heap → heap_place places (heap_node heap place) ≡ place
  pub held : (node : ℕ) (key : ℤ) → Waits keys node key → (heap_place places node < length heap) × (heap_node heap (heap_place places node) ≡ node)

-- a heap but for one place and one node: the place is free, and the node has none
pub record HasHole (keys : List (Option ℤ)) (heap places : List ℕ) (hole node : ℕ) : Type 0 where
  pub room : length keys ≤ length places
  pub within : hole < length heap
  pub ordered : (place : ℕ) → place < length heap → 0 < place → place ≢ hole → above place ≢ hole → IsAhead keys (heap_node heap (above place)) (heap_node heap place)
  pub across : (place : ℕ) → place < length heap → IsChildPlace place hole → 0 < hole → IsAhead keys (heap_node heap (above hole)) (heap_node heap place)
  pub waiting : (place : ℕ) → place < length heap → place ≢ hole → IsWaiting keys (heap_node heap place)
  pub placed : (place : ℕ) → place < length heap → place ≢ hole → heap_place places (heap_node heap place) ≡ place
  pub others : (place : ℕ) → place < length heap → place ≢ hole → heap_node heap place ≢ node
  pub held : (other : ℕ) (key : ℤ) → Waits keys other key → other ≢ node → (heap_place places other < length heap) × (heap_place places other ≢ hole) × (heap_node heap (heap_place places other) ≡ other)

-- the node comes out no later than those right below the place
abbrev pub IsAheadBelow : List (Option ℤ) → List ℕ → ℕ → ℕ → Type 0
IsAheadBelow keys heap hole node = (place : ℕ) → place < length heap → IsChildPlace place hole → IsAhead keys node (heap_node heap place)

-- the node comes out no earlier than the one above the place
abbrev pub IsBehindAbove : List (Option ℤ) → List ℕ → ℕ → ℕ → Type 0
IsBehindAbove keys heap hole node = 0 < hole → IsAhead keys (heap_node heap (above hole)) node
