use Rattle.problem_commands.specs.Solve.{TellsSolution}
use Rattle.problem_commands.proofs.ForProblem.{told, stopped}
use Rattle.problem_commands.proofs.solve.solve.Goals as goal

pub returns-in-Ok-clause-solved : goal.returns-in-Ok-clause-solved
returns-in-Ok-clause-solved g c = told TellsSolution c.args.problem.now _ _ _ _ _ c.in-Ok.p c.in-Ok.ensures.ok c.answer.ensures

pub returns-in-Err-clause-solved : goal.returns-in-Err-clause-solved
returns-in-Err-clause-solved g c = stopped TellsSolution c.args.problem.now _ _ _ _ _ c.in-Err.unread c.in-Err.ensures.err c.stop.ensures
