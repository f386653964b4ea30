use Rattle.widen.specs.Raising.{IsPassOf}
use Rattle.widen.proofs.raising.propose.Given as goal

abbrev pub invariant-loop-k : goal.invariant-loop-k
invariant-loop-k g l = IsPassOf l.b l.pass
