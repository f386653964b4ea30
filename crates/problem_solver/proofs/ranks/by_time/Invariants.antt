use Rattle.std.proofs.Common.{◌<◌}
use Rattle.std.specs.Prelude.{All}
use Rattle.problem_solver.specs.declared.ranks.Timed.{Timed}
use Rattle.problem_solver.proofs.ranks.by_time.Given as goal

abbrev pub invariant-loop-event : goal.invariant-loop-event
invariant-loop-event l = All (λ (entry : Timed). entry.event < l.times) l.timed.items
