use Rattle.std.proofs.Common.{◌≡◌, take, map}
use Rattle.problem.specs.Growing.{reading_of}
use Rattle.problem.proofs.readings.stamps_of.Given as goal

abbrev pub invariant-loop-event : goal.invariant-loop-event
invariant-loop-event l = l.stamps.items ≡ map reading_of (take l.event-index l.events)
