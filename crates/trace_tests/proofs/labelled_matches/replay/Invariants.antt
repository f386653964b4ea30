use Rattle.traces.specs.Held.{seen_in}
use Rattle.reference_traces.specs.Added.{AreAllAdded}
use Rattle.trace_tests.proofs.labelled_matches.replay.Given as goal

abbrev pub invariant-loop-step : goal.invariant-loop-step
invariant-loop-step l = AreAllAdded l.kept.roster l.kept.matcher (seen_in l.kept.labels.items)
