use Rattle.std.proofs.Common.{◌≡◌, ◌++◌, drop}
use Rattle.traces.specs.Messages.{couples_of}
use Rattle.traces.proofs.Sent.{sent_of}
use Rattle.reference_traces.specs.Groups.{grouped_events}
use Rattle.reference_traces.proofs.couples.couples.Given as goal

-- the couples so far and those that the events from this place on send are all
abbrev pub invariant-loop-event : goal.invariant-loop-event
invariant-loop-event l = l.couples.items ++ sent_of (grouped_events l.events) (grouped_events (drop l.event-index l.events)) ≡ couples_of (grouped_events l.events)
