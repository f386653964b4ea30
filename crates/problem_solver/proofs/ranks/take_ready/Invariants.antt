use Rattle.std.proofs.Common.{◌≡◌, ◌+◌, length}
use Rattle.problem_solver.specs.Queues.{AreEventPlaces}
use Rattle.problem_solver.proofs.ranks.take_ready.Given as goal

abbrev pub invariant-loop-event : goal.invariant-loop-event
invariant-loop-event g l = record {
  all : l.queue.all ≡ l.initial.queue.all;
  order : AreEventPlaces l.initial.queue.all l.order.items;
  once : length l.order.items + l.queue.left ≡ length l.initial.order.items + l.initial.queue.left;
}

abbrev pub decreases-loop-event : goal.decreases-loop-event
decreases-loop-event g l = l.queue.left
