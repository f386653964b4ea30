use Rattle.std.proofs.Common.{◌≡◌}
use Rattle.distances.proofs.near.find_near.Given as goal

abbrev pub invariant-loop-most : goal.invariant-loop-most
invariant-loop-most g l = record {
  behind : l.behind ≡ l.fn.behind;
  ahead : l.ahead ≡ l.fn.ahead;
  queue : l.queue ≡ l.fn.queue;
}
