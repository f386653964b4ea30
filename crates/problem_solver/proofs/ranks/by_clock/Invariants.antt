use Rattle.std.proofs.Common.{◌<◌, length}
use Rattle.std.specs.Prelude.{All}
use Rattle.problem_solver.specs.declared.ranks.Stamped.{Stamped}
use Rattle.problem_solver.proofs.ranks.by_clock.Given as goal

abbrev pub invariant-loop-place : goal.invariant-loop-place
invariant-loop-place l = All (λ (entry : Stamped). entry.event < length l.p.events) l.all.items
