use Rattle.std.proofs.Common.{map, take}
use Rattle.traces.specs.declared.event.Event.{Event}
use Rattle.roster.specs.Readings.{AreFresh}
use Rattle.roster.proofs.readings.fresh_readings.Given as goal

abbrev pub invariant-loop-event : goal.invariant-loop-event
invariant-loop-event l = AreFresh l.readings (map (λ (e : Event). e.stamp) (take l.event-index l.events)) l.fresh.items
