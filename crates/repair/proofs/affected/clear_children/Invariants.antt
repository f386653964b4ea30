use Rattle.std.proofs.Common.{◌≡◌, ℕ, ◌+◌, ◌-◌, ◌<◌, ◌≤◌, Bool, List}
use Rattle.problem_model.specs.Parents.{Cells}
use Rattle.withdrawals.specs.Withdrawals.{LeavesFrom}
use Rattle.sync_graph.specs.declared.arc.Arc.{Arc}
use Rattle.earliest.specs.Withdrawn.{found_at}
use Rattle.distances.specs.Changes.{AreBlank}
use Rattle.repair.specs.Clearings.{IsRowBefore, IsMarkingOf, IsSeenOf}
use Rattle.repair.specs.Pulling.{onward}
use Rattle.repair.proofs.affected.clear_children.Given as goal

abbrev pub invariant-loop-arc : goal.invariant-loop-arc
invariant-loop-arc g l = record {
  seen : (gone : List Arc) (was : ℕ → Bool) (p : ℕ) (old : Cells) (marked : ℕ → Bool) (done : ℕ)
      → IsRowBefore l.search.graph l.search.side was gone p old → IsMarkingOf l.search.graph l.search.side gone p old l.initial.row marked l.initial.found l.first done → done < l.first → found_at l.initial.found done ≡ l.node
      → (marks : ℕ → Bool) × IsSeenOf l.search.graph l.search.side l.node l.k gone p old l.row marked marks l.found l.count done;
  before : (i : ℕ) → i < l.first → found_at l.found i ≡ found_at l.initial.found i;
  places : LeavesFrom l.count l.initial.found l.found;
  more : l.first ≤ l.count;
  blank : AreBlank l.initial.row → AreBlank l.row;
  within : l.k ≤ onward l.search.side l.search.graph l.node;
  steps : l.steps ≡ l.initial.steps + l.k;
}

abbrev pub decreases-loop-arc : goal.decreases-loop-arc
decreases-loop-arc g l = onward l.search.side l.search.graph l.node - l.k
