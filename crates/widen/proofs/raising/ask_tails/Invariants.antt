use Rattle.widen.specs.Raising.{IsPassOf}
use Rattle.widen.proofs.raising.ask_tails.Given as goal

abbrev pub invariant-loop-place : goal.invariant-loop-place
invariant-loop-place g l = IsPassOf l.b l.pass
