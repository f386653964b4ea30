use Rattle.roster.proofs.Loop.{event_enters, both_enter}
use Rattle.roster.proofs.growth.nodes_are_pushed.Goals as goal

pub returns-clause-one : goal.returns-clause-one
returns-clause-one c = event_enters

pub returns-clause-two : goal.returns-clause-two
returns-clause-two c = both_enter
