use Rattle.std.proofs.Common.{◌≡◌, take, map}
use Rattle.decl.specs.Declaration.{declaration_of}
use Rattle.traces.specs.Held.{missed_in}
use Rattle.report.specs.Report.{reported_drops}
use Rattle.report.specs.Reports.{drops_of}
use Rattle.report.proofs.dropped_labels.dropped_labels.Given as goal

-- the labels so far
abbrev pub invariant-loop-place : goal.invariant-loop-place
invariant-loop-place l = map reported_drops l.dropped.items ≡ drops_of (take l.place (declaration_of l.decl).labels) (take l.place (missed_in l.accepted))
