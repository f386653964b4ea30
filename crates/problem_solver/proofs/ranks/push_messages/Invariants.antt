use Rattle.std.proofs.Common.{length}
use Rattle.problem_solver.specs.Queues.{AreSuccessions}
use Rattle.problem_solver.proofs.ranks.push_messages.Given as goal

abbrev pub invariant-loop-message : goal.invariant-loop-message
invariant-loop-message l = AreSuccessions (length l.p.events) l.pairs.items
