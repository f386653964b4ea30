use Rattle.roster.proofs.Whole.{stands}
use Rattle.roster.proofs.growth.the_whole_stands_for_its_problem.Goals as goal

pub returns : goal.returns
returns c = λ l p q readings g is lawful are listed by tells grown. stands l p q readings g is lawful are listed by tells grown
