use Rattle.std.proofs.Common.{◌≡◌}
use Rattle.frontier.specs.Heap.{waiting_keys, HasHole, IsAheadBelow}
use Rattle.frontier.proofs.heap.sift_up.Given as goal

abbrev pub invariant-loop-hole : goal.invariant-loop-hole
invariant-loop-hole l = record {
  keys : waiting_keys l.keys l.places ≡ waiting_keys l.keys l.initial.places;
  hole : HasHole (waiting_keys l.keys l.initial.places) l.heap l.places l.hole l.node;
  ahead : IsAheadBelow (waiting_keys l.keys l.initial.places) l.heap l.hole l.node;
}

abbrev pub decreases-loop-hole : goal.decreases-loop-hole
decreases-loop-hole l = l.hole
