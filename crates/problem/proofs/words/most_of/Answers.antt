use Rattle.problem.proofs.Forms.{most_spelled}
use Rattle.problem.proofs.words.most_of.Goals as goal

pub returns-in-Some-clause-some : goal.returns-in-Some-clause-some
returns-in-Some-clause-some c = most_spelled _ _ c.in-Some.ensures.some
