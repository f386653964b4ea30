use Rattle.std.proofs.Common.{◌≡◌, ◌+◌, length}
use Rattle.problem_solver.specs.Queues.{AreEventPlaces}
use Rattle.problem_solver.proofs.ranks.take_all.Given as goal

abbrev pub invariant-loop-entry : goal.invariant-loop-entry
invariant-loop-entry g l = l.queue ≡ l.initial.queue

abbrev pub invariant-loop-entry-2 : goal.invariant-loop-entry-2
invariant-loop-entry-2 g l = record {
  all : l.queue.all ≡ l.initial.queue.all;
  order : AreEventPlaces l.initial.queue.all l.order.items;
  once : length l.order.items + l.queue.left ≡ length l.initial.order.items + l.initial.queue.left;
}
