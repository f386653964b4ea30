use Rattle.std.proofs.Common.{◌≡◌, ◌+◌, ◌-◌, ◌≤◌, length}
use Rattle.withdrawals.specs.Falls.{IsHolding}
use Rattle.sync_graph.specs.Graph.{table_of, reaching}
use Rattle.sync_graph.specs.Lists.{list_at}
use Rattle.earliest.specs.Withdrawn.{falls_of}
use Rattle.earliest.proofs.falls.stop_tails.Given as goal

abbrev pub invariant-loop-arc : goal.invariant-loop-arc
invariant-loop-arc g l = record {
  holding : IsHolding (table_of l.g) (list_at l.g.arriving l.node) l.k (falls_of l.values l.initial.front) (falls_of l.values l.front);
  seen : l.k ≤ reaching l.g l.node;
  room : length l.front ≡ length l.initial.front;
  steps : l.steps ≡ l.initial.steps + l.k;
}

abbrev pub decreases-loop-arc : goal.decreases-loop-arc
decreases-loop-arc g l = length (list_at l.g.arriving l.node) - l.k
