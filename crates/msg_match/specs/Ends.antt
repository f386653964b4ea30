-- The ends of messages among the events of all labels, by the names of the events and by their numbers, and how more events change the messages.
use Rattle.std.specs.Prelude.{◌≡◌, ◌≢◌, ◌<◌, ◌+◌, ℕ, List, [], ◌∷◌, ◌++◌, length, map, slice_index_or, All, AllPairs, Contains}
use Rattle.std.specs.List.{flat_map}
use Rattle.std.specs.List.Sorted.{IsPermutation}
use Rattle.traces.specs.declared.event.Side.{Side}
use Rattle.traces.specs.Seen.{EventKey, SeenMark, Keyed, Unkeyed, Seen}
use Rattle.msg_match.specs.declared.change.Couple as numbers
use Rattle.msg_match.specs.declared.change.Change.{Change}
use Rattle.msg_match.specs.Groups.{SeenItem}
use Rattle.msg_match.specs.Changes.{HaveOwnNumbers}
use Rattle.traces.specs.declared.event_id.EventId.{EventId}
use Rattle.traces.specs.declared.event_id.Couple.{Couple}
use Rattle.traces.specs.Traces.{Placed, events_of, numbered}
use Rattle.traces.specs.Messages.{messages_of, missing}
use Rattle.msg_match.specs.declared.changes.Changed.{Changed}

-- an end of a message: which event it is, what the message is known by, and whether the event sends or receives it
pub record End : Type 0 where
  pub id : EventId
  pub key : EventKey
  pub side : Side

-- an event with this mark as an end of a message, if it is one
abbrev pub end_by_mark : EventId → SeenMark → List End
end_by_mark id (Keyed key side) = (record { id = id; key = key; side = side }) ∷ []
end_by_mark id (Unkeyed reason) = []

-- the ends of messages among events, in their order
abbrev pub ends_among : List Placed → List End
ends_among events = flat_map (λ (e : Placed). end_by_mark e.id e.seen.mark) events

-- these are the ends of messages among the events of all labels, each once, in any order
abbrev pub AreMatchedEnds : List End → List (List Seen) → Type 0
AreMatchedEnds ends seen = IsPermutation (ends_among (events_of seen)) ends

-- ---- by number
-- what stands for the name of no event
abbrev pub no_name : EventId
no_name = record { label = 0; number = 0 }

-- the name of an event by its number, among the names of all events as they came
abbrev pub name_as_came : List EventId → ℕ → EventId
name_as_came ids n = slice_index_or ids n no_name

-- an item as the end that it stands for
abbrev pub end_at : List EventId → SeenItem → End
end_at ids x = record { id = name_as_came ids x.event; key = x.key; side = x.side }

-- these are the ends of messages among the events of all labels, each once, by the numbers of their events
pub record AreEndsBy (ids : List EventId) (items : List SeenItem) (seen : List (List Seen)) : Type 0 where
  pub own : HaveOwnNumbers items
  pub within : All (λ (x : SeenItem). x.event < length ids) items
  pub ends : AreMatchedEnds (map (end_at ids) items) seen

-- an event of this number and with this mark as an item, if it is an end of a message
abbrev pub item_of : ℕ → SeenMark → List SeenItem
item_of n (Keyed key side) = (record { event = n; side = side; key = key }) ∷ []
item_of n (Unkeyed reason) = []

-- the ends of messages among events that are numbered from n on
abbrev pub items_from : ℕ → List Seen → List SeenItem
items_from n [] = []
items_from n (s ∷ more) = item_of n s.mark ++ items_from (n + 1) more

-- the names of events of a label that are numbered there from n on
abbrev pub ids_from : ℕ → ℕ → List Seen → List EventId
ids_from label n more = map (λ (e : Placed). e.id) (numbered label n more)

-- ---- messages
-- a message of numbers, by the names of its ends
abbrev pub named : List EventId → numbers.Couple → Couple
named ids m = record { send = name_as_came ids m.send; receive = name_as_came ids m.receive }

-- the ends of these messages have numbers below n
abbrev pub AreCouplesBelow : ℕ → List numbers.Couple → Type 0
AreCouplesBelow n couples = All (λ (m : numbers.Couple). (m.send < n) × (m.receive < n)) couples

-- the couple is a message among the second events, and none among the first
abbrev pub IsNewMessage : (first second : List (List Seen)) → Couple → Type 0
IsNewMessage first second m = Contains (messages_of (events_of second)) m × (Contains (messages_of (events_of first)) m → ⊥)

-- these are just the messages among the second events that are none among the first, each once
pub record AreNewMessages (first second : List (List Seen)) (found : List Couple) : Type 0 where
  pub only : (m : Couple) → Contains found m → IsNewMessage first second m
  pub all : (m : Couple) → IsNewMessage first second m → Contains found m
  pub once : AllPairs (λ (a b : Couple). a ≢ b) found

-- by these names, these messages are there after and not before, and these before and not after
pub record AreChanges (ids : List EventId) (before after : List (List Seen)) (c : Change) : Type 0 where
  pub added : AreNewMessages before after (map (named ids) c.added.items)
  pub withdrawn : AreNewMessages after before (map (named ids) c.withdrawn.items)

-- so many messages are there after and not before, and so many before and not after
pub record IsChange (before after : List (List Seen)) (c : Changed) : Type 0 where
  pub added : c.messages ≡ missing (messages_of (events_of after)) (messages_of (events_of before))
  pub withdrawn : c.withdrawn ≡ missing (messages_of (events_of before)) (messages_of (events_of after))
