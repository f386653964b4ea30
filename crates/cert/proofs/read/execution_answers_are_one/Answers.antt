use Rattle.cert.proofs.Executions.{execution_one}
use Rattle.cert.proofs.Reading.{found_is}
use Rattle.cert.proofs.read.execution_answers_are_one.Goals as goal

pub returns-clause-one : goal.returns-clause-one
returns-clause-one c = execution_one

pub returns-clause-found : goal.returns-clause-found
returns-clause-found c = found_is
