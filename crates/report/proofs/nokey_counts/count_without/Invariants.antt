use Rattle.std.proofs.Common.{◌≡◌, take}
use Rattle.std.specs.Prelude.{sum_by}
use Rattle.traces.specs.Held.{seen_in}
use Rattle.report.specs.Inside.{lacking}
use Rattle.report.proofs.nokey_counts.count_without.Given as goal

-- the count of the labels so far
abbrev pub invariant-loop-under : goal.invariant-loop-under
invariant-loop-under l = l.count ≡ sum_by (lacking l.reason) (take l.under-index (seen_in l.accepted))
