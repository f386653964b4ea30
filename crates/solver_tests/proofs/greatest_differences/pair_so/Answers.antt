use Rattle.solver_tests.proofs.greatest_differences.pair_so.Goals as goal

pub returns-clause-current : goal.returns-clause-current
returns-clause-current g c = c.pair.ensures.leaves.current

pub returns-clause-answer : goal.returns-clause-answer
returns-clause-answer g c = c.pair.ensures.leaves.answer

pub returns-clause-free : goal.returns-clause-free
returns-clause-free g c = c.pair.ensures.leaves.rows.free
