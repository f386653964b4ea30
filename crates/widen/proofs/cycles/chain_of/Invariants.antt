use Rattle.std.proofs.Common.{◌≡◌, take, map, length}
use Rattle.widen.specs.Weighed.{step_of}
use Rattle.widen.proofs.cycles.chain_of.Given as goal

-- the steps of the arcs so far
abbrev pub invariant-loop-arc : goal.invariant-loop-arc
invariant-loop-arc l = record {
  steps : l.cycle ≡ map step_of (take l.arc-index l.arcs);
  long : length l.cycle ≡ l.arc-index;
}
