use Rattle.report.specs.Merging.{AreApart}
use Rattle.report_tests.proofs.report_lines.keys_of.Given as goal

abbrev pub invariant-loop-value : goal.invariant-loop-value
invariant-loop-value l = AreApart l.keys.items
