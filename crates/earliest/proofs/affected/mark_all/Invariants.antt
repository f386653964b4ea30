use Rattle.std.proofs.Common.{◌≡◌, ℕ, ◌+◌, ◌-◌, ◌≤◌, true, List, length}
use Rattle.problem_model.specs.Executions as bounds
use Rattle.problem_model.specs.Sums.{sum_to}
use Rattle.sync_graph.specs.Graph.{reaching}
use Rattle.withdrawals.specs.Withdrawals.{LeavesFrom}
use Rattle.earliest.specs.Withdrawn.{waits_at, found_at, IsFallMarking}
use Rattle.earliest.proofs.affected.mark_all.Given as goal

abbrev pub invariant-loop-done : goal.invariant-loop-done
invariant-loop-done g l = record {
  marking : (before gone : List bounds.Arc)
      → IsFallMarking l.g before gone l.values l.initial.front l.initial.found l.first 0
      → IsFallMarking l.g before gone l.values l.front l.found l.count l.done;
  keeps : (k : ℕ) → waits_at l.initial.front k ≡ true → waits_at l.front k ≡ true;
  places : LeavesFrom l.count l.initial.found l.found;
  more : l.first ≤ l.count;
  room : length l.front ≡ length l.initial.front;
  steps : l.steps ≤ l.initial.steps + sum_to l.done (λ i. reaching l.g (found_at l.found i) + 1);
}

abbrev pub decreases-loop-done : goal.decreases-loop-done
decreases-loop-done g l = length l.g.nodes - l.done
