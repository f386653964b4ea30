use Rattle.solver.proofs.Staying.{solved_now}
use Rattle.queries.proofs.ListedAnswers.{one_each, each_earliest, earliest_there, run_written}
use Rattle.queries.proofs.solver_laws.executions.Goals as goal

pub returns-clause-earliest : goal.returns-clause-earliest
returns-clause-earliest c = λ l p readings s are is none. earliest_there l p readings are s is none

pub returns-clause-each : goal.returns-clause-each
returns-clause-each c = λ l p readings s x are is none same. each_earliest l p readings are s is none x same

pub returns-clause-solved : goal.returns-clause-solved
returns-clause-solved c = λ s l p is none. (solved_now s is.current none).solved

pub returns-clause-one_each : goal.returns-clause-one_each
returns-clause-one_each c = λ l p readings s are is. one_each l p readings are s is

pub returns-clause-written : goal.returns-clause-written
returns-clause-written c = λ l p readings s are is none. run_written l p readings are s is none
