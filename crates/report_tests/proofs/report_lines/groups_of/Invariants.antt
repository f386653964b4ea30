use Rattle.std.proofs.Common.{All}
use Rattle.report.specs.Report.{HasAsciiKey}
use Rattle.report_tests.proofs.report_lines.groups_of.Given as goal

abbrev pub invariant-loop-one : goal.invariant-loop-one
invariant-loop-one l = All HasAsciiKey l.named.items
