use Rattle.problem_model.proofs.Problems.{same_executions, within, same_greatest, same_unbounded}
use Rattle.problem_model.proofs.differences.problems.Goals as goal

pub returns-clause-execution : goal.returns-clause-execution
returns-clause-execution c = λ p readings arcs x xs are stands is. same_executions p readings x xs is arcs are stands

pub returns-clause-within : goal.returns-clause-within
returns-clause-within c = within

pub returns-clause-greatest : goal.returns-clause-greatest
returns-clause-greatest c = λ p readings arcs j k from to h are stands there there'. same_greatest p readings arcs are stands j k from to there there' h

pub returns-clause-unbounded : goal.returns-clause-unbounded
returns-clause-unbounded c = λ p readings arcs j k from to are stands there there'. same_unbounded p readings arcs are stands j k from to there there'
