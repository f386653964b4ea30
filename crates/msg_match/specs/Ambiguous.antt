-- The ambiguous keys among ends of messages, and how many messages and events they are.
use Rattle.std.specs.Prelude.{List, length, map, filter, Bool, ◌&&◌}
use Rattle.traces.specs.declared.event.Side.{Side}
use Rattle.traces.specs.declared.event.Side.TheVariants.{Send, Receive}
use Rattle.traces.specs.Seen.{EventKey, is_same_key, is_same_side}
use Rattle.msg_match.specs.declared.change.Tallies.{Tallies}
use Rattle.msg_match.specs.Groups.{SeenItem, are_ambiguous, each_once}
use Rattle.msg_match.specs.Messages.{tallies}
use Rattle.traces.specs.declared.event_id.EventId.{EventId}
use Rattle.msg_match.specs.Ends.{End}

-- ---- the events of one key
-- whether an end has this key and this side
abbrev pub is_end : EventKey → Side → End → Bool
is_end key side e = is_same_key e.key key && is_same_side e.side side

-- the events with a key and a side, in the order of the ends
abbrev pub names_with : List End → EventKey → Side → List EventId
names_with ends key side = map (λ (e : End). e.id) (filter (is_end key side) ends)

-- a key, with the events that send it and those that receive it
pub record EndGroup : Type 0 where
  pub key : EventKey
  pub sends : List EventId
  pub receives : List EventId

-- the events of a key among ends
abbrev pub end_group : List End → EventKey → EndGroup
end_group ends key = record { key = key; sends = names_with ends key Send; receives = names_with ends key Receive }

-- ---- ambiguous keys
-- whether a key has sends and receives among ends, and two of the ones or of the others at least
abbrev pub is_ambiguous_key : List End → EventKey → Bool
is_ambiguous_key ends key = are_ambiguous (length (names_with ends key Send)) (length (names_with ends key Receive))

-- the ambiguous keys, each once, in the order in which they first stand among the ends
abbrev pub ambiguous_keys : List End → List EventKey
ambiguous_keys ends = filter (is_ambiguous_key ends) (each_once is_same_key (map (λ (e : End). e.key) ends))

-- the same, each with its events
abbrev pub ambiguous_ends : List End → List EndGroup
ambiguous_ends ends = map (end_group ends) (ambiguous_keys ends)

-- ---- counts
-- an end as an event without a number of its own, since no count looks at it
abbrev pub unnumbered : End → SeenItem
unnumbered e = record { event = 0; side = e.side; key = e.key }

-- how many messages there are, unmatched events (with a key, in no message, and the key is not ambiguous), and events with ambiguous keys
abbrev pub tallies_of : List End → Tallies
tallies_of ends = tallies (map unnumbered ends)
