use Rattle.problem_model.proofs.NearestFollows.{follows_are}
use Rattle.problem_model.proofs.bounds.follows_join_neighbours.Goals as goal

pub returns : goal.returns
returns c = λ p readings b s d t chained are. follows_are p chained readings are b s d t
