use Rattle.event_log.proofs.Given.{given_all}
use Rattle.event_log.proofs.OneAnswer.{fault_one, rows_one, rows_or_fault}
use Rattle.event_log.proofs.law.log_answers_are_one.Goals as goal

pub returns-clause-records : goal.returns-clause-records
returns-clause-records c = λ piece given are. given_all piece are.1 are.0 given are.2 are.3

pub returns-clause-rows : goal.returns-clause-rows
returns-clause-rows c = λ piece a b. rows_one _ a b

pub returns-clause-fault : goal.returns-clause-fault
returns-clause-fault c = fault_one

pub returns-clause-either : goal.returns-clause-either
returns-clause-either c = rows_or_fault
