use Rattle.std.proofs.Common.{◌≡◌, take, map}
use Rattle.widen.specs.Weighed.{arc_of}
use Rattle.widen.proofs.shared_cycles.arcs_of.Given as goal

-- the steps so far
abbrev pub invariant-loop-step : goal.invariant-loop-step
invariant-loop-step l = l.arcs.items ≡ map arc_of (take l.step-index l.steps)
