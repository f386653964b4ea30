use Rattle.std.proofs.Common.{◌≡◌, [], take}
use Rattle.sync_graph.proofs.graph.Graph.without_arcs.Given as goal

-- the nodes before this number are there, and no arc is
abbrev pub invariant-loop-k : goal.invariant-loop-k
invariant-loop-k l = record {
  nodes : l.g.nodes ≡ take l.k l.self.nodes;
  arcs : l.g.arcs ≡ [];
  flags : l.g.in_force ≡ [];
}
