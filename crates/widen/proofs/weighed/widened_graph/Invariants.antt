use Rattle.cert_check.specs.Widened.{widened}
use Rattle.widen.proofs.Weighing.{IsWeighedUpTo}
use Rattle.widen.proofs.weighed.widened_graph.Given as goal

-- the nodes, and the arcs so far
abbrev pub invariant-loop-k : goal.invariant-loop-k
invariant-loop-k l = IsWeighedUpTo (widened l.what l.p l.extra) l.k l.g l.h
