use Rattle.std.proofs.Common.{◌≤◌, ◌-◌, take, drop}
use Rattle.thinning.specs.Named.{AreNamed}
use Rattle.problem_commands.proofs.thin.events_of.Given as goal

-- the places of the names so far
abbrev pub invariant-loop-k : goal.invariant-loop-k
invariant-loop-k l = (2 ≤ l.k) × AreNamed l.p (take (l.k - 2) (drop 2 l.words)) l.places.items
