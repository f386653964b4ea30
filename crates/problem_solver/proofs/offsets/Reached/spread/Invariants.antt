use Rattle.std.proofs.Common.{◌≡◌}
use Rattle.problem_solver.proofs.offsets.Reached.spread.Given as goal

abbrev pub invariant-loop-place : goal.invariant-loop-place
invariant-loop-place l = l.self ≡ l.initial.self
