-- Events by their keys, and what the events of one key are.
use Rattle.std.specs.Prelude.{ℕ, ◌+◌, List, [], ◌∷◌, length, map, filter, Option, Some, None, Bool, not, ◌&&◌, ◌||◌, nat_lt, is_some}
use Rattle.traces.specs.declared.event.Side.{Side}
use Rattle.traces.specs.declared.event.Side.TheVariants.{Send, Receive}
use Rattle.traces.specs.Seen.{EventKey, is_same_key, is_same_side}
use Rattle.msg_match.specs.declared.change.Couple.{Couple}

-- ---- events
-- an event: its number, which end of a message it is, and what the message is known by
pub record SeenItem : Type 0 where
  pub event : ℕ
  pub side : Side
  pub key : EventKey

-- whether an event has this key and this side
abbrev pub has_mark : EventKey → Side → SeenItem → Bool
has_mark key side x = is_same_key x.key key && is_same_side x.side side

-- the events with a key and a side, in the order in which they came
abbrev pub events_with : List SeenItem → EventKey → Side → List ℕ
events_with items key side = map (λ (x : SeenItem). x.event) (filter (has_mark key side) items)

-- ---- the events of one key
-- a key, with its sends and its receives
pub record SeenGroup : Type 0 where
  pub key : EventKey
  pub sends : List ℕ
  pub receives : List ℕ

-- the events of a key
abbrev pub group_of : List SeenItem → EventKey → SeenGroup
group_of items key = record { key = key; sends = events_with items key Send; receives = events_with items key Receive }

-- how many events there are
abbrev pub group_size : SeenGroup → ℕ
group_size g = length g.sends + length g.receives

-- the message of one send and one receive
abbrev pub only_couple : List ℕ → List ℕ → Option Couple
only_couple (s ∷ []) (r ∷ []) = Some (record { send = s; receive = r })
only_couple _ _ = None

-- the message of a key: it has one send and one receive
abbrev pub couple_of : SeenGroup → Option Couple
couple_of g = only_couple g.sends g.receives

-- whether it has one
abbrev pub is_matched : SeenGroup → Bool
is_matched g = is_some (couple_of g)

-- whether there are sends and receives, and two of the ones or the others at least
abbrev pub are_ambiguous : (sends receives : ℕ) → Bool
are_ambiguous sends receives = nat_lt 0 sends && nat_lt 0 receives && (nat_lt 1 sends || nat_lt 1 receives)

-- whether a key is ambiguous
abbrev pub is_ambiguous : SeenGroup → Bool
is_ambiguous g = are_ambiguous (length g.sends) (length g.receives)

-- in no message, and not ambiguous
abbrev pub is_unmatched : SeenGroup → Bool
is_unmatched g = not (is_matched g) && not (is_ambiguous g)

-- ---- all keys
-- what is in a list, each once, where it first stands
abbrev pub each_once : {K : Type 0} → (K → K → Bool) → List K → List K
each_once is_same [] = []
each_once {K} is_same (k ∷ more) = k ∷ filter (λ (j : K). not (is_same k j)) (each_once is_same more)

-- the keys of events, each once, in the order in which they first came
abbrev pub keys_of : List SeenItem → List EventKey
keys_of items = each_once is_same_key (map (λ (x : SeenItem). x.key) items)

-- the events of each key
abbrev pub groups_of : List SeenItem → List SeenGroup
groups_of items = map (group_of items) (keys_of items)

-- the ambiguous keys with their events, in the order in which the keys first came
abbrev pub ambiguous_groups : List SeenItem → List SeenGroup
ambiguous_groups items = filter is_ambiguous (groups_of items)
