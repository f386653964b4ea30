use Rattle.problem_commands.specs.Intervals.{TellsNamed}
use Rattle.problem_commands.proofs.ForProblem.{told, stopped}
use Rattle.problem_commands.proofs.ends.ends.Goals as goal

pub returns-in-Ok-clause-answered : goal.returns-in-Ok-clause-answered
returns-in-Ok-clause-answered g c = told (λ p. TellsNamed p c.args.names.now.first.now c.args.names.now.second.now) c.args.problem.now _ _ _ _ _ c.in-Ok.p c.in-Ok.ensures.ok c.between.ensures

pub returns-in-Err-clause-answered : goal.returns-in-Err-clause-answered
returns-in-Err-clause-answered g c = stopped (λ p. TellsNamed p c.args.names.now.first.now c.args.names.now.second.now) c.args.problem.now _ _ _ _ _ c.in-Err.unread c.in-Err.ensures.err c.stop.ensures
