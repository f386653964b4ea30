use Rattle.std.proofs.Common.{◌≡◌, ℕ, ◌+◌, ◌-◌, ◌<◌, ◌≤◌, true, List, length}
use Rattle.problem_model.specs.Executions as bounds
use Rattle.problem_model.specs.Executions.{at}
use Rattle.sync_graph.specs.Graph.{unnamed, arc_at, reaching}
use Rattle.sync_graph.specs.Lists.{entry_at}
use Rattle.withdrawals.specs.Withdrawals.{IsExact, LeavesFrom}
use Rattle.earliest.specs.Withdrawn.{waits_at, found_at, IsFallMarking}
use Rattle.earliest.proofs.affected.mark_tails.Given as goal

abbrev pub invariant-loop-arc : goal.invariant-loop-arc
invariant-loop-arc g l = record {
  marking : (before gone : List bounds.Arc)
      → IsFallMarking l.g before gone l.values l.initial.front l.initial.found l.fn.so_far.count l.fn.so_far.done
      → IsFallMarking l.g before gone l.values l.front l.found l.count l.fn.so_far.done;
  keeps : (k : ℕ) → waits_at l.initial.front k ≡ true → waits_at l.front k ≡ true;
  before : (i : ℕ) → i < l.fn.so_far.count → found_at l.found i ≡ found_at l.initial.found i;
  places : LeavesFrom l.count l.initial.found l.found;
  more : l.fn.so_far.count ≤ l.count;
  here : (m : ℕ) → m < l.k → IsExact (at l.values) (unnamed (arc_at l.g.arcs (entry_at l.g.arriving l.node m))) → waits_at l.front (arc_at l.g.arcs (entry_at l.g.arriving l.node m)).from ≡ true;
  seen : l.k ≤ reaching l.g l.node;
  room : length l.front ≡ length l.initial.front;
  steps : l.steps ≡ l.initial.steps + l.k;
}

abbrev pub decreases-loop-arc : goal.decreases-loop-arc
decreases-loop-arc g l = reaching l.g l.node - l.k
