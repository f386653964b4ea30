use Rattle.std.proofs.Common.{◌≡◌, drop}
use Rattle.traces.specs.Beginnings.{begins}
use Rattle.reference_traces.proofs.groups.begins.Given as goal

-- whether a time lies just before is told by those from this place on
abbrev pub invariant-loop-before : goal.invariant-loop-before
invariant-loop-before l = begins l.window (drop l.before-index l.times) l.time ≡ begins l.window l.times l.time
