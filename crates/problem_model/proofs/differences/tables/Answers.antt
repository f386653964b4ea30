use Rattle.problem_model.proofs.Tables.{lists_listed, lists_reversed, obeys_all, execution_of_table}
use Rattle.problem_model.proofs.differences.tables.Goals as goal

pub returns-clause-listed : goal.returns-clause-listed
returns-clause-listed c = lists_listed

pub returns-clause-reversed : goal.returns-clause-reversed
returns-clause-reversed c = lists_reversed

pub returns-clause-obeyed : goal.returns-clause-obeyed
returns-clause-obeyed c = obeys_all

pub returns-clause-execution : goal.returns-clause-execution
returns-clause-execution c = execution_of_table
