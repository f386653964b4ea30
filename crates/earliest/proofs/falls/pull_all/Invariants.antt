use Rattle.std.proofs.Common.{◌≡◌, ℕ, ◌+◌, ◌≤◌, length}
use Rattle.problem_model.specs.Sums.{sum_to}
use Rattle.sync_graph.specs.Graph.{departing}
use Rattle.earliest.specs.Withdrawn.{waits_at, found_at, IsPulledIn}
use Rattle.earliest.proofs.falls.pull_all.Given as goal

abbrev pub invariant-loop-i : goal.invariant-loop-i
invariant-loop-i g l = record {
  pulled : IsPulledIn l.g l.values l.front l.found l.count l.i;
  waits : (k : ℕ) → waits_at l.front k ≡ waits_at l.initial.front k;
  room : length l.front ≡ length l.initial.front;
  steps : l.steps ≤ l.initial.steps + sum_to l.i (λ i. departing l.g (found_at l.found i) + 1);
}
