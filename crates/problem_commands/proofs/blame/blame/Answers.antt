use Rattle.problem_commands.specs.Blame.{TellsBlame}
use Rattle.problem_commands.proofs.ForProblem.{told, stopped}
use Rattle.problem_commands.proofs.blame.blame.Goals as goal

pub returns-in-Ok-clause-blamed : goal.returns-in-Ok-clause-blamed
returns-in-Ok-clause-blamed g c = told TellsBlame c.args.problem.now _ _ _ _ _ c.in-Ok.p c.in-Ok.ensures.ok c.answer.ensures

pub returns-in-Err-clause-blamed : goal.returns-in-Err-clause-blamed
returns-in-Err-clause-blamed g c = stopped TellsBlame c.args.problem.now _ _ _ _ _ c.in-Err.unread c.in-Err.ensures.err c.stop.ensures
