use Rattle.std.proofs.Common.{ℕ, ◌<◌, ◌≤◌, get_or}
use Rattle.roster.specs.Readings.{Stamped}
use Rattle.roster.proofs.readings.least_of.Given as goal

abbrev pub invariant-loop-reading : goal.invariant-loop-reading
invariant-loop-reading l = (k : ℕ) (d : Stamped) → k < l.reading-index → l.least ≤ (get_or l.fresh k d).0
