use Rattle.std.proofs.Common.{◌≡◌, ◌∙◌, ap}
use Rattle.serde_json.specs.Data.{Members, object}
use Rattle.report.specs.Report.{reported, reported_drops}
use Rattle.report.specs.Inside.{put_alone, put_dropped, put_passed}
use Rattle.report.proofs.Text.{put_all}
use Rattle.report.proofs.values.report_value.Goals as goal

pub returns : goal.returns
returns c =
    let v = reported c.args.v.now in
    let dropped = rw c.deref.ensures.value at c.in_ok-put_dropped.ensures in
    let passed = c.in_ok-put_passed.ensures ∙ ap (put_passed v.passed) (dropped ∙ ap (put_dropped v.dropped) c.in_ok-members.ensures) in
    let all = c.in_ok-put_alone.ensures ∙ ap (put_alone v.alone) passed ∙ put_all v in
    c.from.ensures ∙ ap (λ (ms : Members). object ms) all
