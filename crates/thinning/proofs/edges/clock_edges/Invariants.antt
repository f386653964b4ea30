use Rattle.std.proofs.Common.{◌≡◌, length}
use Rattle.thinning.specs.Edges.{AreEdgesOfClocks}
use Rattle.thinning.proofs.edges.clock_edges.Given as goal

-- the edges of the events so far
abbrev pub invariant-loop-place : goal.invariant-loop-place
invariant-loop-place l = record {
  each : length l.edges.items ≡ l.clocks;
  edges : AreEdgesOfClocks l.events l.place l.edges.items;
}
