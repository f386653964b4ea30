use Rattle.std.proofs.Common.{◌-◌, length, get_or, []}
use Rattle.roster.specs.Groups.{IsPlaceOf, lists_of}
use Rattle.roster.proofs.sums.place_in.Given as goal

abbrev pub invariant-loop-above : goal.invariant-loop-above
invariant-loop-above l = IsPlaceOf (get_or (lists_of l.levels) (length l.levels - l.above) []) l.sum l.found.0 l.found.1
