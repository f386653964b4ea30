use Rattle.std.proofs.Common.{◌≡◌, ◌≢◌, true, false, List, All, AllPairs, drop, take, get_or}
use Rattle.std.specs.Prelude.{ℤ, map}
use Rattle.sync_graph.specs.Graph.{IsGraph, arc_at}
use Rattle.sync_graph.specs.InForce.{IsEarliestOf}
use Rattle.earliest.specs.Withdrawn.{IsEarliestWith}
use Rattle.repair.specs.RowWithdrawals.{AreWithdrawn}
use Rattle.solver.specs.Changes.{withdrawn}
use Rattle.solver.proofs.withdrawn_arcs.take_out.Given as goal

abbrev pub invariant-loop-k : goal.invariant-loop-k
invariant-loop-k l = record {
  nodes : l.g.nodes ≡ l.initial.g.nodes;
  arcs : l.g.arcs ≡ l.initial.g.arcs;
  flags : withdrawn l.g.in_force (drop l.k-index l.numbers) ≡ withdrawn l.initial.g.in_force l.numbers;
  in_force : All (λ j. get_or l.g.in_force j false ≡ true) (drop l.k-index l.numbers);
  graph : IsGraph l.g;
  values : (values : List ℤ) → IsEarliestOf l.initial.g values → IsEarliestWith l.g (map (arc_at l.initial.g.arcs) (take l.k-index l.numbers)) values;
  rows : AreWithdrawn l.initial.g (map (arc_at l.initial.g.arcs) (take l.k-index l.numbers)) l.g;
  differ : AllPairs (λ i j. i ≢ j) (drop l.k-index l.numbers);
}
