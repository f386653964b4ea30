use Rattle.std.proofs.Common.{drop}
use Rattle.problem_commands.specs.Thin.{TellsThin}
use Rattle.problem_commands.proofs.ForProblem.{told, stopped}
use Rattle.problem_commands.proofs.thin.thin.Goals as goal

pub returns-in-Ok-clause-thinned : goal.returns-in-Ok-clause-thinned
returns-in-Ok-clause-thinned g c = told (λ p. TellsThin p (drop 2 c.args.words.now)) c.args.problem.now _ _ _ _ _ c.in-Ok.p c.in-Ok.ensures.ok c.answer.ensures

pub returns-in-Err-clause-thinned : goal.returns-in-Err-clause-thinned
returns-in-Err-clause-thinned g c = stopped (λ p. TellsThin p (drop 2 c.args.words.now)) c.args.problem.now _ _ _ _ _ c.in-Err.unread c.in-Err.ensures.err c.stop.ensures
