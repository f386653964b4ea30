use Rattle.std.proofs.Common.{◌≡◌, length}
use Rattle.problem_solver.proofs.items.reading_ranks.Given as goal

abbrev pub invariant-loop-place : goal.invariant-loop-place
invariant-loop-place l = length l.found.items ≡ length l.readings
