use Rattle.widen.specs.Raising.{IsPassOf}
use Rattle.widen.proofs.raising.bring_in_healed.Given as goal

abbrev pub invariant-loop : goal.invariant-loop
invariant-loop g l = IsPassOf l.b l.pass
