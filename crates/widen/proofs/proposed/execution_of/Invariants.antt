use Rattle.std.proofs.Common.{◌≡◌, length}
use Rattle.widen.proofs.proposed.execution_of.Given as goal

-- there is one value for each node so far
abbrev pub invariant-loop-node : goal.invariant-loop-node
invariant-loop-node l = length l.execution ≡ l.node
