use Rattle.traces.specs.Held.{seen_in}
use Rattle.reference_traces.specs.Added.{AreAllAdded}
use Rattle.report_tests.proofs.trace_reports.added_in_turn.Given as goal

abbrev pub invariant-loop-label : goal.invariant-loop-label
invariant-loop-label l = AreAllAdded l.kept.roster l.kept.matcher (seen_in l.kept.labels.items)
