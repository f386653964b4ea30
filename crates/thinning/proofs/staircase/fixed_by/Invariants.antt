use Rattle.std.proofs.Common.{◌≡◌, length}
use Rattle.thinning.proofs.staircase.fixed_by.Given as goal

abbrev pub invariant-loop-place : goal.invariant-loop-place
invariant-loop-place l = length l.fixed.items ≡ l.place
