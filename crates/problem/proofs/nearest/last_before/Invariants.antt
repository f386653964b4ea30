use Rattle.std.proofs.Common.{◌≡◌}
use Rattle.problem_model.specs.ShortList.{clocks_before, nearest_reading}
use Rattle.problem.proofs.nearest.last_before.Given as goal

abbrev pub invariant-loop-follow : goal.invariant-loop-follow
invariant-loop-follow l =
    nearest_reading l.readings (clocks_before l.items.follows l.clock l.clock) ≡ nearest_reading l.readings (clocks_before l.items.follows l.later l.later)

abbrev pub decreases-loop-follow : goal.decreases-loop-follow
decreases-loop-follow l = l.clock
