use Rattle.std.proofs.Common.{ℕ, ◌<◌, ◌≢◌, get_or, length}
use Rattle.roster.proofs.event_names.sharp_of.Given as goal

abbrev pub invariant-loop-k : goal.invariant-loop-k
invariant-loop-k l = (j d : ℕ) → j < l.k → j < length l.name → get_or l.name j d ≢ 35
