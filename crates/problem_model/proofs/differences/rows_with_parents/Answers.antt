use Rattle.problem_model.proofs.Parents.{row_closed, row_one, row_grown, row_path, row_greatest, row_unbounded, row_high}
use Rattle.problem_model.proofs.differences.rows_with_parents.Goals as goal

pub returns-clause-closed : goal.returns-clause-closed
returns-clause-closed c = row_closed

pub returns-clause-path : goal.returns-clause-path
returns-clause-path c = row_path

pub returns-clause-greatest : goal.returns-clause-greatest
returns-clause-greatest c = row_greatest

pub returns-clause-unbounded : goal.returns-clause-unbounded
returns-clause-unbounded c = row_unbounded

pub returns-clause-high : goal.returns-clause-high
returns-clause-high c = row_high

pub returns-clause-one : goal.returns-clause-one
returns-clause-one c = row_one

pub returns-clause-grown : goal.returns-clause-grown
returns-clause-grown c = row_grown
