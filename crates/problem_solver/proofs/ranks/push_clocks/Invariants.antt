use Rattle.std.proofs.Common.{ℕ, ◌<◌}
use Rattle.std.specs.Prelude.{All}
use Rattle.problem_solver.specs.declared.ranks.Stamped.{Stamped}
use Rattle.problem_solver.specs.Queues.{AreSuccessions}
use Rattle.problem_solver.proofs.ranks.push_clocks.Given as goal

abbrev pub invariant-loop-place : goal.invariant-loop-place
invariant-loop-place l = (events : ℕ) → All (λ (entry : Stamped). entry.event < events) l.all → AreSuccessions events l.initial.pairs.items → AreSuccessions events l.pairs.items
