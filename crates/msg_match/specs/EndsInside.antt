-- The events of ambiguous keys in their order.
use Rattle.std.specs.Prelude.{◌<◌, ℕ, List, All, AllPairs, [], ◌∷◌, length, map, filter, Bool, ◌&&◌, ◌||◌, ◌==◌, nat_lt, if◌then◌else◌}
use Rattle.std.specs.List.Sorted.{IsPermutation}
use Rattle.traces.specs.declared.event.Side.TheVariants.{Send, Receive}
use Rattle.traces.specs.Seen.{EventKey, is_same_key}
use Rattle.msg_match.specs.Groups.{SeenGroup}
use Rattle.traces.specs.declared.event_id.EventId.{EventId}
use Rattle.traces.specs.Pairs.{ComesBefore}
use Rattle.msg_match.specs.Ends.{End, name_as_came, no_name}
use Rattle.msg_match.specs.Ambiguous.{EndGroup, end_group, is_ambiguous_key, names_with}

-- names stand in the order of their labels, and of their numbers under one label
abbrev pub AreNamesInOrder : List EventId → Type 0
AreNamesInOrder ids = AllPairs ComesBefore ids

-- ends stand in the order of their events
abbrev pub AreRising : List End → Type 0
AreRising ends = AllPairs (λ (a b : End). ComesBefore a.id b.id) ends

-- the numbers of a group's events are those of names
abbrev pub IsWithin : List EventId → SeenGroup → Type 0
IsWithin ids g = All (λ (n : ℕ). n < length ids) g.sends × All (λ (n : ℕ). n < length ids) g.receives

-- the events of a group, by their names and in any order, are those of its key among ends
pub record HasEventsOf (ids : List EventId) (ends : List End) (g : SeenGroup) : Type 0 where
  pub sends : IsPermutation (names_with ends g.key Send) (map (name_as_came ids) g.sends)
  pub receives : IsPermutation (names_with ends g.key Receive) (map (name_as_came ids) g.receives)

-- whether one event comes before another
abbrev pub comes_first : EventId → EventId → Bool
comes_first a b = nat_lt a.label b.label || ((a.label == b.label) && nat_lt a.number b.number)

-- the one that comes first
abbrev pub earlier : EventId → EventId → EventId
earlier a b = if comes_first a b then a else b

-- the first of the ends with a key, and the name of no event where there is none
abbrev pub first_with : List End → EventKey → EventId
first_with [] key = no_name
first_with (e ∷ ends) key = if is_same_key e.key key then e.id else first_with ends key

-- a key with its events among ends, behind the first of them
abbrev pub led_group : List End → EventKey → EventId × EndGroup
led_group ends key = (first_with ends key, end_group ends key)

-- each of these keys that is ambiguous, with its events, behind the first of them
abbrev pub led_groups : List End → List EventKey → List (EventId × EndGroup)
led_groups ends keys = map (led_group ends) (filter (is_ambiguous_key ends) keys)
