use Rattle.std.proofs.Common.{◌^◌}
use Rattle.roster.specs.Groups.{lists_of}
use Rattle.roster.proofs.SumLevels.{IsWriting}
use Rattle.roster.proofs.sums.write.Given as goal

abbrev pub invariant-loop-level : goal.invariant-loop-level
invariant-loop-level l = IsWriting (lists_of l.initial.levels) (lists_of l.levels) l.level-index l.place l.at l.old l.new (2 ^ 32)
