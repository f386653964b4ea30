use Rattle.std.proofs.Common.{◌≡◌, ◌++◌, drop}
use Rattle.traces.specs.Traces.{events_of, events_from}
use Rattle.traces.specs.Held.{placed_in, seen_in}
use Rattle.traces.proofs.event_places.events.Given as goal

-- the events so far and those of the labels from this place on are all
abbrev pub invariant-loop-label : goal.invariant-loop-label
invariant-loop-label l = placed_in l.events.items ++ events_from l.label (seen_in (drop l.label l.accepted)) ≡ events_of (seen_in l.accepted)
