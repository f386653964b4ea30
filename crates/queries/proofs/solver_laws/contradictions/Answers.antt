use Rattle.queries.proofs.ListedAnswers.{contradicts, cycle_written}
use Rattle.queries.proofs.solver_laws.contradictions.Goals as goal

pub returns-clause-held : goal.returns-clause-held
returns-clause-held c = λ l p readings s are is some. contradicts l p readings are s is some

pub returns-clause-written : goal.returns-clause-written
returns-clause-written c = λ l p readings s are is has. cycle_written l p readings are s is has
