use Rattle.std.proofs.Common.{◌≡◌, ◌+◌, length}
use Rattle.problem_solver.proofs.graphs.push_zeros.Given as goal

abbrev pub invariant-loop-node : goal.invariant-loop-node
invariant-loop-node l = length l.e.values ≡ length l.fn.e.values + l._node
