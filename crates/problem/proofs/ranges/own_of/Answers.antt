use Rattle.problem.proofs.Written.{own_some}
use Rattle.problem.proofs.ranges.own_of.Goals as goal

pub returns : goal.returns
returns c = λ s e t is.
    rw c.joined_own.ensures (own_some s e t _ _ _ _ _ _ (c.nano_of.ensures s is.0) (c.nano_of-2.ensures e is.1) (c.nano_of-3.ensures t is.2))
