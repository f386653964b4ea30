use Rattle.std.proofs.Common.{◌≡◌, take, length}
use Rattle.widen.proofs.attempt.execution_of.Given as goal

-- the values of the nodes so far
abbrev pub invariant-loop-node : goal.invariant-loop-node
invariant-loop-node l = record {
  values : l.execution ≡ take l.node l.e.values;
  long : length l.execution ≡ l.node;
}
