use Rattle.std.proofs.Common.{◌≡◌, drop}
use Rattle.traces.specs.Messages.{with_mark}
use Rattle.reference_traces.specs.Ends.{only_event}
use Rattle.reference_traces.specs.Groups.{group_of, grouped_events}
use Rattle.reference_traces.proofs.Only.{only_behind}
use Rattle.reference_traces.proofs.couples.only_event.Given as goal

-- what is the only one among the found one and the events from this place on is the only one among all
abbrev pub invariant-loop-event : goal.invariant-loop-event
invariant-loop-event l =
    only_behind l.found (with_mark (group_of l.message l.moment) l.side (grouped_events (drop l.event-index l.events))) ≡ only_event (with_mark (group_of l.message l.moment) l.side (grouped_events l.events))
