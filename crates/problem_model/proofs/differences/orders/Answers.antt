use Rattle.problem_model.proofs.Orders.{before_greatest, unbounded_not_before, same_greatest, unbounded_not_same}
use Rattle.problem_model.proofs.differences.orders.Goals as goal

pub returns-clause-before : goal.returns-clause-before
returns-clause-before c = before_greatest

pub returns-clause-not_before : goal.returns-clause-not_before
returns-clause-not_before c = unbounded_not_before

pub returns-clause-same : goal.returns-clause-same
returns-clause-same c = same_greatest

pub returns-clause-not_same : goal.returns-clause-not_same
returns-clause-not_same c = unbounded_not_same
