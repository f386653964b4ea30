use Rattle.std.proofs.Common.{◌≡◌, take}
use Rattle.traces.specs.Held.{missed_in}
use Rattle.report.specs.Reports.{passed_sums}
use Rattle.report.specs.Inside.{AreOfLabels}
use Rattle.report.proofs.passed_counts.passed_sums.Given as goal

-- the sums of the labels so far, and they are of so many labels
abbrev pub invariant-loop-under : goal.invariant-loop-under
invariant-loop-under l = (l.sums ≡ passed_sums (take l.under-index (missed_in l.accepted))) × AreOfLabels l.under-index l.sums
