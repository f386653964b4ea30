use Rattle.problem_text.proofs.Lengths.{text_short}
use Rattle.problem_text.proofs.OneProblem.{read_same}
use Rattle.problem_text.proofs.laws.read_again.Goals as goal

pub returns-clause-short : goal.returns-clause-short
returns-clause-short c = text_short

pub returns-clause-same : goal.returns-clause-same
returns-clause-same c = read_same
