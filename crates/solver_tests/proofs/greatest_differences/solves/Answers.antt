use Rattle.solver_tests.proofs.greatest_differences.solves.Goals as goal

pub is_told-requires-clause-current : goal.is_told-requires-clause-current
is_told-requires-clause-current c = c.in_ok-s.ensures.solution.current
