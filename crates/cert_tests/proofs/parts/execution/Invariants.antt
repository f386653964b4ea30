use Rattle.std.proofs.Common.{◌≡◌, length}
use Rattle.cert_tests.proofs.parts.execution.Given as goal

abbrev pub invariant-loop-time : goal.invariant-loop-time
invariant-loop-time l = length l.execution ≡ l.time-index
