use Rattle.std.proofs.Common.{◌≡◌, take}
use Rattle.traces.specs.Seen.{seen_events}
use Rattle.report.specs.Inside.{lacking}
use Rattle.report.proofs.nokey_counts.count_under.Given as goal

abbrev pub invariant-loop-event : goal.invariant-loop-event
invariant-loop-event l = l.count ≡ lacking l.reason (take l.event-index (seen_events l.events))
