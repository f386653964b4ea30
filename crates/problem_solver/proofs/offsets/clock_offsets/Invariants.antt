use Rattle.std.proofs.Common.{◌≡◌}
use Rattle.problem_solver.proofs.offsets.clock_offsets.Given as goal

abbrev pub invariant-loop-clock : goal.invariant-loop-clock
invariant-loop-clock l = l.reached.all ≡ l.clocks
