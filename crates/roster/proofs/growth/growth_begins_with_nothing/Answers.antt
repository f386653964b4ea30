use Rattle.roster.proofs.Loop.{nothing_grown, grown_alike}
use Rattle.roster.proofs.growth.growth_begins_with_nothing.Goals as goal

pub returns-clause-nothing : goal.returns-clause-nothing
returns-clause-nothing c = nothing_grown

pub returns-clause-alike : goal.returns-clause-alike
returns-clause-alike c = λ p one other left g alike sends receives grown. grown_alike p one other alike sends receives left g grown
