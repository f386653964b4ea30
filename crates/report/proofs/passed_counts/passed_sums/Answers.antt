use Rattle.std.proofs.Common.{◌≡◌, ◌≤◌, ◌+◌, ℕ, List, length, ap, sym, ◌∙◌, arith, take, take_all}
use Rattle.std.proofs.lemmas.List.{length-map}
use Rattle.traces.specs.declared.accepted.Accepted.{Accepted}
use Rattle.traces.specs.Traces.{Missed}
use Rattle.traces.specs.Held.{missed_by, missed_in, passed_by}
use Rattle.report.specs.declared.view.PassedSums.{PassedSums}
use Rattle.report.specs.Reports.{passed_sums}
use Rattle.report.specs.Inside.{sums_with}
use Rattle.report.proofs.PassedLabels.{label_more, more_labels}
use Rattle.report.proofs.passed_counts.passed_sums.Goals as goal

pub sums_with-sums-requires : goal.sums_with-sums-requires
sums_with-sums-requires c =
    let inside = c.loop-under-test.true in
    let many = c.requires in
    more_labels c.loop-under.under-index 65536 c.loop-under.sums (omega (arith, inside, many)) c.loop-under.invariant.1

pub loop-under-preserved : goal.loop-under-preserved
loop-under-preserved c =
    let l = c.loop-under in
    let x = c.under-item.result in
    let more = label_more c.args.accepted.now l.under-index x c.loop-under-test.true c.under-item.is in
    let here : sums_with l.sums c.passed.result ≡ sums_with (passed_sums (take l.under-index (missed_in c.args.accepted.now))) (passed_by x.stream) =
    ap (sums_with l.sums) c.passed.ensures ∙ ap (λ (s : PassedSums). sums_with s (passed_by x.stream)) l.invariant.0 in
    (c.sums_with-sums.ensures.sums ∙ here ∙ sym more, c.sums_with-sums.ensures.few l.under-index l.invariant.1)

pub returns : goal.returns
returns c =
    let labels = missed_in c.args.accepted.now in
    let all : take c.loop-under.under-index labels ≡ labels =
    take_all c.loop-under.under-index labels (omega (arith, length-map c.args.accepted.now (λ (a : Accepted). missed_by a.stream), c.loop-under-test.false)) in
    c.loop-under.invariant.0 ∙ ap (λ (l : List Missed). passed_sums l) all
