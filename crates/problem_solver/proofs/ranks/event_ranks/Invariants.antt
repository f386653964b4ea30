use Rattle.std.proofs.Common.{◌≡◌, length}
use Rattle.problem_solver.proofs.ranks.event_ranks.Given as goal

abbrev pub invariant-loop-rank : goal.invariant-loop-rank
invariant-loop-rank g l = length l.ranks.items ≡ length l.p.events
