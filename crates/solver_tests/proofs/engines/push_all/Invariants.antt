use Rattle.std.proofs.Common.{◌≡◌, true, All}
use Rattle.row_pool.specs.Pool.{free_rows}
use Rattle.solver.specs.Current.{IsCurrent}
use Rattle.solver_tests.proofs.engines.push_all.Given as goal

abbrev pub invariant-loop-link : goal.invariant-loop-link
invariant-loop-link g l = record {
  current : IsCurrent l.s;
  nodes : l.s.graph.nodes ≡ l.initial.s.graph.nodes;
  flags : All (λ flag. flag ≡ true) l.s.graph.in_force;
  free : free_rows l.s.pool ≡ free_rows l.initial.s.pool;
}
