use Rattle.std.proofs.Common.{◌≡◌, ◌+◌, ◌≤◌, length}
use Rattle.withdrawals.specs.Withdrawals.{flagged_sum}
use Rattle.sync_graph.specs.Graph.{reaching}
use Rattle.earliest.specs.Withdrawn.{waits_at, IsFallingIn}
use Rattle.earliest.proofs.falls.settle_falls.Given as goal

abbrev pub invariant-loop-node : goal.invariant-loop-node
invariant-loop-node g l = record {
  falling : IsFallingIn l.g l.initial.values l.values l.front;
  room : length l.front ≡ length l.initial.front;
  steps : l.steps + flagged_sum (length l.g.nodes) (λ k. reaching l.g k + 2) (waits_at l.front) ≤ l.initial.steps + flagged_sum (length l.g.nodes) (λ k. reaching l.g k + 2) (waits_at l.initial.front);
}

abbrev pub decreases-loop-node : goal.decreases-loop-node
decreases-loop-node g l = flagged_sum (length l.g.nodes) (λ _. 1) (waits_at l.front)
