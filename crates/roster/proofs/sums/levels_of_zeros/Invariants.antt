use Rattle.std.proofs.Common.{◌≡◌, ◌-◌, replicate}
use Rattle.roster.specs.Groups.{lists_of}
use Rattle.roster.specs.Sums.{AreLevelsTo, first_of}
use Rattle.roster.proofs.SumLevels.{last_of}
use Rattle.roster.proofs.sums.levels_of_zeros.Given as goal

abbrev pub invariant-loop-width : goal.invariant-loop-width
invariant-loop-width l = record {
  levels : AreLevelsTo l.width (lists_of l.levels.items);
  last : last_of (lists_of l.levels.items) ≡ replicate l.width 0;
  first : first_of (lists_of l.levels.items) ≡ replicate l.count 0;
}

abbrev pub decreases-loop-width : goal.decreases-loop-width
decreases-loop-width l = l.width - 1
