use Rattle.roster.proofs.Problem.{listed_by}
use Rattle.roster.proofs.laws.roster_lists_its_problem.Goals as goal

pub returns : goal.returns
returns c = λ r seen readings is holds are. listed_by r is seen holds readings are
