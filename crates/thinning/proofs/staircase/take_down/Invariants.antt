use Rattle.std.proofs.Common.{length}
use Rattle.thinning.proofs.staircase.take_down.Given as goal

abbrev pub decreases-loop-place : goal.decreases-loop-place
decreases-loop-place l = length l.standing.items
