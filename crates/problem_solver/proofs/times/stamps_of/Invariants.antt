use Rattle.std.proofs.Common.{◌≡◌, length}
use Rattle.problem_solver.specs.Times.{AreStamps}
use Rattle.problem_solver.proofs.times.stamps_of.Given as goal

abbrev pub invariant-loop-event : goal.invariant-loop-event
invariant-loop-event l = record {
  one_each : length l.stamps.items ≡ l.event-index;
  clocks : AreStamps (length l.p.clocks) l.stamps.items;
}
