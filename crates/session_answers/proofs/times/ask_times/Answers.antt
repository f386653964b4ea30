use Rattle.solver.proofs.Staying.{leaves_all}
use Rattle.session_answers.proofs.times.ask_times.Goals as goal

pub ask_since-requires-clause-solution : goal.ask_since-requires-clause-solution
ask_since-requires-clause-solution g c = (c.requires.solution.0, c.requires.solution.1)

pub returns-in-Some-clause-writes : goal.returns-in-Some-clause-writes
returns-in-Some-clause-writes g c = rw c.in-Some.is (λ p declared is true_time keeps. c.ask_since.ensures.writes p is)

pub returns-in-Some-clause-steps : goal.returns-in-Some-clause-steps
returns-in-Some-clause-steps g c = rw c.in-Some.is (λ slot. c.ask_since.ensures.steps slot)

pub returns-in-None-clause-writes : goal.returns-in-None-clause-writes
returns-in-None-clause-writes g c = rw c.in-None.is (λ p declared is true_time keeps. c.ask_by_source.ensures p declared is true_time keeps)

pub returns-in-None-clause-leaves : goal.returns-in-None-clause-leaves
returns-in-None-clause-leaves g c = leaves_all c.args.solver.now c.requires.solution.1.current
