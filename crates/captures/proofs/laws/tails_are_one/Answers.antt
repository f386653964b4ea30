use Rattle.captures.proofs.Formats.{tails_one}
use Rattle.captures.proofs.laws.tails_are_one.Goals as goal

pub returns : goal.returns
returns c = λ t u s a b x y. tails_one t u s x.read y.read x.stands y.stands
