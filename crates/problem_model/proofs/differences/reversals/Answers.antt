use Rattle.problem_model.proofs.Reversal.{execution_reversed, execution_of_reversed, greatest_reversed, greatest_of_reversed, unbounded_reversed, unbounded_of_reversed, path_of_reversed, sum_of-walked_back}
use Rattle.problem_model.proofs.differences.reversals.Goals as goal

pub returns-clause-execution : goal.returns-clause-execution
returns-clause-execution c = execution_reversed

pub returns-clause-execution_back : goal.returns-clause-execution_back
returns-clause-execution_back c = execution_of_reversed

pub returns-clause-greatest : goal.returns-clause-greatest
returns-clause-greatest c = greatest_reversed

pub returns-clause-greatest_back : goal.returns-clause-greatest_back
returns-clause-greatest_back c = greatest_of_reversed

pub returns-clause-unbounded : goal.returns-clause-unbounded
returns-clause-unbounded c = unbounded_reversed

pub returns-clause-unbounded_back : goal.returns-clause-unbounded_back
returns-clause-unbounded_back c = unbounded_of_reversed

pub returns-clause-path_back : goal.returns-clause-path_back
returns-clause-path_back c = path_of_reversed

pub returns-clause-same_sum : goal.returns-clause-same_sum
returns-clause-same_sum c = sum_of-walked_back
