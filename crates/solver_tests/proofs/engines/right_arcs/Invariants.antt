use Rattle.std.proofs.Common.{◌≤◌}
use Rattle.solver_tests.proofs.engines.right_arcs.Given as goal

abbrev pub invariant-loop-number : goal.invariant-loop-number
invariant-loop-number g l = l.right ≤ l.number
