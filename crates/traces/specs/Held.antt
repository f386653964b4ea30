-- What is held under the labels: its events, and how many packets have none.
use Rattle.std.specs.Prelude.{List, map}
use Rattle.captures.specs.Capture.{Dropped, Passed, none_dropped, none_passed}
use Rattle.captures.specs.Feeding as feeding
use Rattle.traces.specs.Seen.{Seen, seen_event, seen_events}
use Rattle.traces.specs.declared.event_id.PlacedEvent.{PlacedEvent}
use Rattle.traces.specs.declared.accepted.Accepted.{Accepted}
use Rattle.traces.specs.declared.accepted.Stream.{Stream}
use Rattle.traces.specs.declared.accepted.Stream.TheVariants as streams
use Rattle.traces.specs.Traces.{Missed, Placed}

-- the events that are held under each label
abbrev pub seen_in : List Accepted → List (List Seen)
seen_in accepted = map (λ (a : Accepted). seen_events a.events.items) accepted

-- how many packets were passed over, by what is kept of the bytes under a label; of a log none are
abbrev pub passed_by : Stream → Passed
passed_by streams.Log = none_passed
passed_by (streams.Capture tail) = feeding.passed_of tail

-- how many packets were dropped before they were captured; a log tells of none
abbrev pub dropped_by : Stream → Dropped
dropped_by streams.Log = none_dropped
dropped_by (streams.Capture tail) = feeding.dropped_of tail

-- how many packets have no event
abbrev pub missed_by : Stream → Missed
missed_by stream = record { passed = passed_by stream; dropped = dropped_by stream }

-- the same under each label
abbrev pub missed_in : List Accepted → List Missed
missed_in accepted = map (λ (a : Accepted). missed_by a.stream) accepted

-- a placed event, by what is seen of it
abbrev pub placed_of : PlacedEvent → Placed
placed_of e = record { id = e.id; seen = seen_event e.event.now }

-- placed events, by what is seen of them
abbrev pub placed_in : List PlacedEvent → List Placed
placed_in events = map placed_of events
