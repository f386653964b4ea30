use Rattle.std.proofs.Common.{◌≡◌, ◌+◌, ◌≤◌, drop}
use Rattle.session.proofs.ToldMessages.{told}
use Rattle.session.proofs.counts.told_messages.Given as goal

-- those that were counted and those that are left are all
abbrev pub invariant-loop-v : goal.invariant-loop-v
invariant-loop-v l = (l.count ≤ l.v) × (l.count + told (drop l.v l.roster.came) ≡ told l.roster.came)
