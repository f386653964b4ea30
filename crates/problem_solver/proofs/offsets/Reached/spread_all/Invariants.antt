use Rattle.std.proofs.Common.{◌≡◌}
use Rattle.problem_solver.proofs.offsets.Reached.spread_all.Given as goal

abbrev pub invariant-loop-clock : goal.invariant-loop-clock
invariant-loop-clock l = l.self.all ≡ l.initial.self.all

abbrev pub decreases-loop-clock : goal.decreases-loop-clock
decreases-loop-clock l = l.self.left
