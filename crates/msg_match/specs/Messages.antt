-- The messages among events, and how many there are.
use Rattle.std.specs.Prelude.{◌≡◌, ◌⊎◌, List, [], ◌∷◌, length, filter, Bool, ◌&&◌}
use Rattle.traces.specs.declared.event.Side.TheVariants.{Send, Receive}
use Rattle.traces.specs.Seen.{EventKey, is_same_side}
use Rattle.msg_match.specs.declared.change.Couple.{Couple}
use Rattle.msg_match.specs.declared.change.Tallies.{Tallies}
use Rattle.msg_match.specs.Groups.{SeenItem, events_with, group_of, is_matched, is_ambiguous, is_unmatched}

-- of all events with some key, the couple has the only send and the only receive
pub record IsMessage (items : List SeenItem) (m : Couple) : Type 0 where
  pub key : EventKey
  pub sent : events_with items key Send ≡ m.send ∷ []
  pub received : events_with items key Receive ≡ m.receive ∷ []

-- the event is an end of the message
abbrev pub IsEnd : SeenItem → Couple → Type 0
IsEnd x m = (x.event ≡ m.send) ⊎ (x.event ≡ m.receive)

-- whether an event is the send of a message
abbrev pub sends_message : List SeenItem → SeenItem → Bool
sends_message items x = is_same_side x.side Send && is_matched (group_of items x.key)

-- whether an event has an ambiguous key
abbrev pub has_ambiguous_key : List SeenItem → SeenItem → Bool
has_ambiguous_key items x = is_ambiguous (group_of items x.key)

-- whether an event is unmatched: it is in no message, and its key is not ambiguous
abbrev pub is_unmatched_event : List SeenItem → SeenItem → Bool
is_unmatched_event items x = is_unmatched (group_of items x.key)

-- how many messages there are, unmatched events, and events with ambiguous keys
abbrev pub tallies : List SeenItem → Tallies
tallies items = record {
  messages = length (filter (sends_message items) items);
  unmatched = length (filter (is_unmatched_event items) items);
  ambiguous = length (filter (has_ambiguous_key items) items);
}
