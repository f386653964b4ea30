-- The messages among events, and the problem of a declaration and traces.
use Rattle.std.specs.Prelude.{ℕ, List, [], ◌∷◌, length, map, filter, position, unwrap_or, slice_get, Option, option_and_then, Bool, not, ◌&&◌}
use Rattle.std.specs.List.{flat_map, list_any}
use Rattle.problem_model.specs.declared.items.Event.{Event}
use Rattle.problem_model.specs.declared.items.Message.{Message}
use Rattle.problem_model.specs.declared.items.StampBounds.{StampBounds}
use Rattle.problem_model.specs.Problem.{ProblemLists}
use Rattle.decl.specs.Declaration.{Declaration, link_bounds, follows_of, own_bounds}
use Rattle.traces.specs.declared.event.Side.{Side}
use Rattle.traces.specs.declared.event.Side.TheVariants.{Send, Receive}
use Rattle.traces.specs.Seen.{EventKey, SeenMark, Keyed, Unkeyed, Seen, is_mark}
use Rattle.traces.specs.declared.event_id.EventId.{EventId}
use Rattle.traces.specs.declared.event_id.Couple.{Couple}
use Rattle.traces.specs.Windows.{grouped}
use Rattle.traces.specs.Traces.{Traces, Placed, seen_by, events_of, is_same, name_of, host_of, clock_of}

-- ---- messages
-- all events with this key and this side
abbrev pub with_mark : EventKey → Side → List Placed → List Placed
with_mark key side events = filter (λ (e : Placed). is_mark key side e.seen.mark) events

-- a send and a receive, where each is the only one
abbrev pub only_two : List Placed → List Placed → List Couple
only_two (s ∷ []) (r ∷ []) = (record { send = s.id; receive = r.id }) ∷ []
only_two _ _ = []

-- the message that an event with this mark sends, among all events
abbrev pub sent_by : List Placed → SeenMark → List Couple
sent_by events (Keyed key Send) = only_two (with_mark key Send events) (with_mark key Receive events)
sent_by events (Keyed key Receive) = []
sent_by events (Unkeyed reason) = []

-- the couples in the order of their sends: an event and another one are a couple where the one is the only send of its key
-- and the other the only receive of that key
abbrev pub couples_of : List Placed → List Couple
couples_of events = flat_map (λ (e : Placed). sent_by events e.seen.mark) events

-- the messages: the couples of events that go by their groups
abbrev pub messages_of : List Placed → List Couple
messages_of events = couples_of (grouped events)

-- the same two events
abbrev pub is_same_couple : Couple → Couple → Bool
is_same_couple a b = is_same a.send b.send && is_same a.receive b.receive

-- how many messages of the first list are not in the second
abbrev pub missing : List Couple → List Couple → ℕ
missing xs ys = length (filter (λ (x : Couple). not (list_any (λ (y : Couple). is_same_couple x y) ys)) xs)

-- ---- the problem
-- the place of an event among all
abbrev pub place_of : List Placed → EventId → ℕ
place_of events id = unwrap_or (position (λ (e : Placed). is_same e.id id) events) 0

-- the bounds that an event has of its own: those of its label's trace, where the declaration gives any
abbrev pub bounds_of : Declaration → EventId → Option StampBounds
bounds_of d id = option_and_then (own_bounds d) (slice_get d.labels id.label)

-- an event with its name and its own bounds, on the clock of its label
abbrev pub event_with : Declaration → Placed → Event
event_with d e = record { name = name_of d e.id; clock = clock_of d e.id; stamp = e.seen.stamp; bounds = bounds_of d e.id }

-- a message with the bounds of a link
abbrev pub message_with : List Placed → Couple → ℕ × Option ℕ → Message
message_with events m bounds = record { send = place_of events m.send; receive = place_of events m.receive; least = bounds.0; most = bounds.1 }

-- a message with the bounds of the link from its send's host to its receive's
abbrev pub linked : Declaration → List Placed → Couple → Message
linked d events m = message_with events m (link_bounds d (host_of d m.send) (host_of d m.receive))

-- the clocks of all hosts, a follow for each two neighbouring clocks of a host, the events of all labels and their messages
abbrev pub problem_of_seen : Declaration → List (List Seen) → ProblemLists
problem_of_seen d seen =
    let events = events_of seen in
    record { clocks = d.clocks; follows = follows_of d; events = map (event_with d) events; messages = map (linked d events) (messages_of events) }

-- the problem of a declaration and traces
abbrev pub problem_of : Declaration → Traces → ProblemLists
problem_of d t = problem_of_seen d (seen_by d t)
