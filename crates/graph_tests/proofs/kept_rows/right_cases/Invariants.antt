use Rattle.std.proofs.Common.{◌≤◌}
use Rattle.graph_tests.proofs.kept_rows.right_cases.Given as goal

abbrev pub invariant-loop-links : goal.invariant-loop-links
invariant-loop-links g l = l.right ≤ l.links-index
