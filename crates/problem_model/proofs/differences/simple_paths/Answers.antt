use Rattle.problem_model.proofs.SimplePaths.{simple_short, short_sum}
use Rattle.problem_model.proofs.differences.simple_paths.Goals as goal

pub returns-clause-short : goal.returns-clause-short
returns-clause-short c = simple_short

pub returns-clause-sum : goal.returns-clause-sum
returns-clause-sum c = short_sum
