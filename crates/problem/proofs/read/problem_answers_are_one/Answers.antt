use Rattle.problem.proofs.Answering.{found_reads, reads_found}
use Rattle.problem.proofs.Steps.{problem_answers_one}
use Rattle.problem.proofs.read.problem_answers_are_one.Goals as goal

pub returns-clause-one : goal.returns-clause-one
returns-clause-one c = problem_answers_one

pub returns-clause-found : goal.returns-clause-found
returns-clause-found c = λ text p. (found_reads text p, reads_found text p)
