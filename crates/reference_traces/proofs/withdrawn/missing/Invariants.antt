use Rattle.std.proofs.Common.{◌≡◌, ◌≤◌, ◌+◌, drop}
use Rattle.traces.specs.Messages.{missing}
use Rattle.reference_traces.proofs.withdrawn.missing.Given as goal

-- the count so far and that of the messages from this place on are that of all
abbrev pub invariant-loop-x : goal.invariant-loop-x
invariant-loop-x l = (l.count ≤ l.x-index) × (l.count + missing (drop l.x-index l.xs) l.ys ≡ missing l.xs l.ys)
