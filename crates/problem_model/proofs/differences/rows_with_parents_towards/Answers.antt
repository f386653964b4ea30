use Rattle.problem_model.proofs.Parents.{towards_closed, towards_path, towards_row_greatest, towards_row_unbounded}
use Rattle.problem_model.proofs.differences.rows_with_parents_towards.Goals as goal

pub returns-clause-closed : goal.returns-clause-closed
returns-clause-closed c = towards_closed

pub returns-clause-path : goal.returns-clause-path
returns-clause-path c = towards_path

pub returns-clause-greatest : goal.returns-clause-greatest
returns-clause-greatest c = towards_row_greatest

pub returns-clause-unbounded : goal.returns-clause-unbounded
returns-clause-unbounded c = towards_row_unbounded
