use Rattle.problem_model.proofs.Solutions.{same_earliest, named_contradiction, no_execution}
use Rattle.problem_model.proofs.differences.solutions.Goals as goal

pub returns-clause-earliest : goal.returns-clause-earliest
returns-clause-earliest c = λ p readings arcs x xs are stands is. same_earliest p readings arcs are stands x xs is

pub returns-clause-contradiction : goal.returns-clause-contradiction
returns-clause-contradiction c = named_contradiction

pub returns-clause-no_execution : goal.returns-clause-no_execution
returns-clause-no_execution c = no_execution
