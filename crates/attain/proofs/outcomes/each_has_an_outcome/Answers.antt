use Rattle.attain.proofs.Arcs.{outcome_of}
use Rattle.attain.proofs.Problems.{problem_outcome}
use Rattle.attain.proofs.outcomes.each_has_an_outcome.Goals as goal

pub returns-clause-arcs : goal.returns-clause-arcs
returns-clause-arcs c = outcome_of

pub returns-clause-problems : goal.returns-clause-problems
returns-clause-problems c = problem_outcome
