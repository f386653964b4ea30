use Rattle.std.proofs.Common.{◌≡◌, ◌++◌, List, take, ap, sym, ◌∙◌}
use Rattle.captures.specs.Capture.{Dropped}
use Rattle.traces.specs.declared.accepted.Accepted.{Accepted}
use Rattle.traces.specs.Held.{dropped_by, missed_in}
use Rattle.report.specs.Report.{ReportedDrops}
use Rattle.report.specs.Reports.{drops_of, drops_under}
use Rattle.report.proofs.DroppedLabels.{drops_on}
use Rattle.report.proofs.dropped_labels.dropped_labels.Goals as goal

pub loop-place-preserved : goal.loop-place-preserved
loop-place-preserved c =
    let k = c.loop-place.place in
    let labels = c.args.decl.now.labels.items in
    let accepted = c.args.accepted.now in
    let own = c.index.result.now in
    c.in_ok-push_drops.ensures
    ∙ ap (λ (ds : List ReportedDrops). ds ++ drops_under own c.dropped-under.result) c.loop-place.invariant
    ∙ ap (λ (d : Dropped). drops_of (take k labels) (take k (missed_in accepted)) ++ drops_under own d) (c.dropped-under.ensures ∙ ap (λ (a : Accepted). dropped_by a.stream) (sym c.index-accepted-place.is))
    ∙ sym (drops_on accepted labels k c.index-accepted-place.result own c.loop-place-test.true c.requires c.index-accepted-place.is c.index.ensures)
