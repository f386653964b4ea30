-- Nodes that wait, each with a key: a list of optional keys, of which the one at a place is the key of the node with that number.
use Rattle.std.specs.Prelude.{◌≡◌, ℕ, ◌≤◌, ◌⊎◌, List, ℤ, ◌<ℤ◌, slice_get, Option, Some, None}

-- the node waits with this key
abbrev pub Waits : List (Option ℤ) → ℕ → ℤ → Type 0
Waits front node key = slice_get front node ≡ Some (Some key)

-- the node is below the room and does not wait
abbrev pub IsFreeNode : List (Option ℤ) → ℕ → Type 0
IsFreeNode front node = slice_get front node ≡ Some None

-- no node waits
abbrev pub IsEmpty : List (Option ℤ) → Type 0
IsEmpty front = (node : ℕ) (key : ℤ) → Waits front node key → ⊥

-- the key comes before the other, or they are equal and the node is no later
abbrev pub IsFirstKey : ℤ → ℕ → ℤ → ℕ → Type 0
IsFirstKey key node other_key other = (key <ℤ other_key) ⊎ ((key ≡ other_key) × (node ≤ other))

-- the node waits with this key, and whatever waits does not come before it: with the keys 4, none, 2, 2 it is node 2,
-- since 2 is less than 4, and node 3 with the same key comes later
pub record IsLeastEntry (front : List (Option ℤ)) (node : ℕ) (key : ℤ) : Type 0 where
  pub waits : Waits front node key
  pub least : (other : ℕ) (other_key : ℤ) → Waits front other other_key → IsFirstKey key node other_key other
