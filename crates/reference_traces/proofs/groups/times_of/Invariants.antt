use Rattle.std.proofs.Common.{◌≡◌, ◌++◌, drop}
use Rattle.traces.specs.Seen.{key_of}
use Rattle.traces.specs.Held.{placed_in}
use Rattle.traces.specs.Windows.{keys_among, times_of}
use Rattle.reference_traces.proofs.groups.times_of.Given as goal

-- the times so far and those of the events from this place on are all
abbrev pub invariant-loop-event : goal.invariant-loop-event
invariant-loop-event l = l.times.items ++ times_of (keys_among (placed_in (drop l.event-index l.events))) (key_of l.key) ≡ times_of (keys_among (placed_in l.events)) (key_of l.key)
