use Rattle.std.proofs.Common.{◌<◌, ◌≤◌, ◌+◌, ◌-◌, ◌^◌}
use Rattle.widen.specs.Search.{IsKnown}
use Rattle.widen.proofs.found.close.Given as goal

-- what lies between both ends
abbrev pub decreases-widenings : goal.decreases-widenings
decreases-widenings g l = l.known.high - l.known.low

-- each round takes something of what lies between the ends
abbrev pub invariant-widenings : goal.invariant-widenings
invariant-widenings g l = record {
  known : IsKnown l.what l.p l.known;
  some : 0 < l.rounds;
  counted : l.rounds + (l.known.high - l.known.low) ≤ 2 ^ 62 + 1;
}
