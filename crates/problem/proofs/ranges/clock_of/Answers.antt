use Rattle.problem.proofs.Written.{joined_some}
use Rattle.problem.proofs.ranges.clock_of.Goals as goal

pub returns : goal.returns
returns c = λ s l e t is.
    rw c.joined.ensures (joined_some c.args.w.now.name s l e t _ _ _ _ _ _ _ (c.rate_of.ensures s l is.0 is.1) (c.nano_of.ensures e is.2) (c.nano_of-2.ensures t is.3))
