use Rattle.std.proofs.Common.{◌≡◌, ◌+◌, ◌++◌, drop}
use Rattle.traces.specs.Seen.{seen_events}
use Rattle.traces.specs.Traces.{numbered}
use Rattle.traces.specs.Held.{placed_in}
use Rattle.traces.proofs.event_places.place_events.Given as goal

-- the events so far and those from this place on are all
abbrev pub invariant-loop-place : goal.invariant-loop-place
invariant-loop-place l = placed_in l.placed.items ++ numbered l.label (l.place + 1) (seen_events (drop l.place l.events)) ≡ placed_in l.initial.placed.items ++ numbered l.label 1 (seen_events l.events)
