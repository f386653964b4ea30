use Rattle.std.proofs.Common.{◌≡◌, ℕ, ◌+◌, ◌-◌, ◌≤◌, true, Bool, List, length}
use Rattle.problem_model.specs.Parents.{Cells}
use Rattle.problem_model.specs.Sums.{sum_to}
use Rattle.withdrawals.specs.Withdrawals.{LeavesFrom}
use Rattle.sync_graph.specs.declared.arc.Arc.{Arc}
use Rattle.earliest.specs.Withdrawn.{found_at}
use Rattle.distances.specs.Changes.{AreBlank}
use Rattle.repair.specs.Clearings.{IsRowBefore, IsMarkingOf}
use Rattle.repair.specs.Pulling.{onward}
use Rattle.repair.proofs.affected.clear_all.Given as goal

abbrev pub invariant-loop-done : goal.invariant-loop-done
invariant-loop-done g l = record {
  marking : (gone : List Arc) (was : ℕ → Bool) (p : ℕ) (old : Cells) (marked : ℕ → Bool)
      → IsRowBefore l.search.graph l.search.side was gone p old → IsMarkingOf l.search.graph l.search.side gone p old l.initial.row marked l.initial.found l.first 0
      → (marks : ℕ → Bool) × IsMarkingOf l.search.graph l.search.side gone p old l.row marks l.found l.count l.done × ((k : ℕ) → marked k ≡ true → marks k ≡ true);
  places : LeavesFrom l.count l.initial.found l.found;
  more : l.first ≤ l.count;
  below : l.done ≤ l.count;
  blank : AreBlank l.initial.row → AreBlank l.row;
  steps : l.steps ≤ l.initial.steps + sum_to l.done (λ i. onward l.search.side l.search.graph (found_at l.found i) + 1);
}

abbrev pub decreases-loop-done : goal.decreases-loop-done
decreases-loop-done g l = length l.search.graph.nodes - l.done
