use Rattle.roster.proofs.PushedBounds.{bound_pushed}
use Rattle.roster.proofs.growth.a_bound_is_pushed.Goals as goal

pub returns : goal.returns
returns c = bound_pushed
