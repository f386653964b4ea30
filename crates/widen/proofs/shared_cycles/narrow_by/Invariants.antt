use Rattle.widen.specs.Search.{IsKnown}
use Rattle.widen.proofs.shared_cycles.narrow_by.Given as goal

abbrev pub invariant-loop-cycle : goal.invariant-loop-cycle
invariant-loop-cycle l = IsKnown l.what l.p l.known
