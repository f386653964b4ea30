use Rattle.problem_commands.specs.WhatWords.{asked_words}
use Rattle.problem_commands.specs.Widening.{TellsLeastNamed}
use Rattle.problem_commands.proofs.ForProblem.{told, stopped}
use Rattle.problem_commands.proofs.widening.widen.Goals as goal

pub returns-in-Ok-clause-found : goal.returns-in-Ok-clause-found
returns-in-Ok-clause-found g c = told (λ p. TellsLeastNamed p (asked_words c.args.words.now)) c.args.problem.now _ _ _ _ _ c.in-Ok.p c.in-Ok.ensures.ok c.answer_named.ensures

pub returns-in-Err-clause-found : goal.returns-in-Err-clause-found
returns-in-Err-clause-found g c = stopped (λ p. TellsLeastNamed p (asked_words c.args.words.now)) c.args.problem.now _ _ _ _ _ c.in-Err.unread c.in-Err.ensures.err c.stop.ensures
