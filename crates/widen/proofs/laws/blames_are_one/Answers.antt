use Rattle.widen.proofs.OneBlame.{blame_one}
use Rattle.widen.proofs.laws.blames_are_one.Goals as goal

pub returns : goal.returns
returns c = λ p a b x y. blame_one p a b x y
