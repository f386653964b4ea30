use Rattle.std.proofs.Common.{◌≡◌, ◌+◌, ◌≤◌, map}
use Rattle.std.specs.List.{range_with_len}
use Rattle.trial.specs.Rounds.{message}
use Rattle.trial.proofs.workload.next_batch.Given as goal

abbrev pub invariant-loop : goal.invariant-loop
invariant-loop l = record {
  within : l.counter ≤ 100;
  course : l.course ≡ record { seed = l.fn.course.seed; rounds = l.fn.course.rounds + l.counter };
  messages : l.messages.items ≡ map (message l.fn.course.seed) (range_with_len (l.fn.course.rounds + 1) l.counter);
}
