use Rattle.problem_model.proofs.Paths.{path_bound, no_execution, greatest_from, greatest_one, unbounded_not_greatest}
use Rattle.problem_model.proofs.differences.paths.Goals as goal

pub returns-clause-along : goal.returns-clause-along
returns-clause-along c = path_bound

pub returns-clause-contradiction : goal.returns-clause-contradiction
returns-clause-contradiction c = no_execution

pub returns-clause-greatest : goal.returns-clause-greatest
returns-clause-greatest c = greatest_from

pub returns-clause-one_greatest : goal.returns-clause-one_greatest
returns-clause-one_greatest c = greatest_one

pub returns-clause-no_greatest : goal.returns-clause-no_greatest
returns-clause-no_greatest c = unbounded_not_greatest
