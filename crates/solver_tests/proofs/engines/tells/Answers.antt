use Rattle.solver_tests.proofs.engines.tells.Goals as goal

pub returns-clause-current : goal.returns-clause-current
returns-clause-current g c = c.pair.ensures.leaves.current

pub returns-clause-graph : goal.returns-clause-graph
returns-clause-graph g c = c.pair.ensures.leaves.answer.graph

pub returns-clause-free : goal.returns-clause-free
returns-clause-free g c = c.pair.ensures.leaves.rows.free
