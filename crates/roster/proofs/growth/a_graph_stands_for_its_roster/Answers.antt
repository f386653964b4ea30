use Rattle.traces.specs.Messages.{problem_of_seen}
use Rattle.roster.specs.Roster.{listed}
use Rattle.roster.proofs.Problem.{listed_by}
use Rattle.roster.specs.Rosters.{problem_by_number}
use Rattle.roster.proofs.Rosters.{by_number, tells}
use Rattle.roster.proofs.Whole.{stands}
use Rattle.roster.proofs.growth.a_graph_stands_for_its_roster.Goals as goal

pub returns : goal.returns
returns c = λ r seen messages readings g is holds carried knows graph lawful are grown.
    stands (listed r) (problem_by_number r messages) (problem_of_seen r.declaration seen) readings g graph lawful are (listed_by r is seen holds readings are) (by_number r is seen holds messages carried) (tells r is g knows) grown
