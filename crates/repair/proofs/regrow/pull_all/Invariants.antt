use Rattle.std.proofs.Common.{◌≡◌, ◌+◌, ◌≤◌, length}
use Rattle.problem_model.specs.Sums.{sum_to}
use Rattle.earliest.specs.Withdrawn.{found_at}
use Rattle.distances.specs.Facing.{opposite}
use Rattle.distances.specs.Searched.{IsOpenRow}
use Rattle.repair.specs.Pulling.{onward, AreSmallAtRest, IsPullingIn}
use Rattle.repair.proofs.regrow.pull_all.Given as goal

abbrev pub invariant-loop-i : goal.invariant-loop-i
invariant-loop-i g l = record {
  pulled : IsPullingIn l.search.graph l.search.side l.found.list.now l.i l.initial.row l.row l.front;
  at_rest : AreSmallAtRest l.row l.front;
  state : IsOpenRow l.search l.row l.front;
  room : length l.front ≡ length l.initial.front;
  steps : l.steps ≤ l.initial.steps + sum_to l.i (λ i. onward (opposite l.search.side) l.search.graph (found_at l.found.list.now i) + 1);
}
