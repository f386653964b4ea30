use Rattle.std.proofs.Common.{length}
use Rattle.problem_solver.specs.Queues.{AreSuccessions}
use Rattle.problem_solver.proofs.ranks.push_follows.Given as goal

abbrev pub invariant-loop-clock : goal.invariant-loop-clock
invariant-loop-clock l = AreSuccessions (length l.p.events) l.pairs.items
