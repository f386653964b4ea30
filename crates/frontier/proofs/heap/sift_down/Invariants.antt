use Rattle.std.proofs.Common.{◌≡◌, ◌-◌, length}
use Rattle.frontier.specs.Heap.{waiting_keys, HasHole, IsBehindAbove}
use Rattle.frontier.proofs.heap.sift_down.Given as goal

abbrev pub invariant-loop-below : goal.invariant-loop-below
invariant-loop-below l = record {
  keys : waiting_keys l.keys l.places ≡ waiting_keys l.keys l.initial.places;
  hole : HasHole (waiting_keys l.keys l.initial.places) l.heap l.places l.hole l.node;
  behind : IsBehindAbove (waiting_keys l.keys l.initial.places) l.heap l.hole l.node;
}

abbrev pub decreases-loop-below : goal.decreases-loop-below
decreases-loop-below l = length l.initial.heap - l.hole
