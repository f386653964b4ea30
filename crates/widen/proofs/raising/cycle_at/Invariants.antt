use Rattle.std.proofs.Common.{◌≡◌, ◌<◌, length}
use Rattle.std.specs.Prelude.{All}
use Rattle.widen.specs.Weighed.{IsNameOf}
use Rattle.widen.proofs.raising.cycle_at.Given as goal

-- the arcs so far are bounds of the problem, one for each turn
abbrev pub invariant-loop : goal.invariant-loop
invariant-loop l = record {
  node : l.node < length l.b.graph.now.nodes;
  names : All (IsNameOf l.b.problem.now) l.arcs.items;
  long : length l.arcs.items ≡ l.counter;
}
