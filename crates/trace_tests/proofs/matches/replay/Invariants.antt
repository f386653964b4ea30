use Rattle.std.proofs.Common.{◌≡◌, length}
use Rattle.trace_tests.specs.Numbered.{AreNumberedFrom}
use Rattle.trace_tests.proofs.matches.replay.Given as goal

abbrev pub invariant-loop-step : goal.invariant-loop-step
invariant-loop-step l = (length l.matcher ≡ l.first) × AreNumberedFrom 0 l.matcher
