use Rattle.roster.proofs.Withdrawn.{grown_after}
use Rattle.roster.proofs.growth.messages_are_withdrawn.Goals as goal

pub returns : goal.returns
returns c = λ before after withdrawn g h more went grown. grown_after before after withdrawn more g h went grown
