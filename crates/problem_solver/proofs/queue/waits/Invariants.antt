use Rattle.std.proofs.Common.{◌≡◌, length}
use Rattle.problem_solver.proofs.queue.waits.Given as goal

abbrev pub invariant-loop-pair : goal.invariant-loop-pair
invariant-loop-pair l = length l.counts.items ≡ l.events
