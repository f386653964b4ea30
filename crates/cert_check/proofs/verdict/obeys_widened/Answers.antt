use Rattle.std.proofs.Common.{◌++◌}
use Rattle.problem_model.specs.ShortList.{span_bounds, event_bounds}
use Rattle.cert_check.specs.declared.verdict.Verdict.TheVariants as verdicts
use Rattle.cert_check.specs.Reasons.{joining_bounds}
use Rattle.cert_check.specs.Verdict.{AreTimes}
use Rattle.cert_check.proofs.Judging.{judges_on, judges_first}
use Rattle.cert_check.specs.Widened.{widened}
use Rattle.cert_check.proofs.Widening.{widened_verdict}
use Rattle.cert_check.proofs.verdict.obeys_widened.Goals as goal

pub returns-in-Obeys-judge_stamps-clause-verdict : goal.returns-in-Obeys-judge_stamps-clause-verdict
returns-in-Obeys-judge_stamps-clause-verdict c = λ x lists.
    let p = c.args.p.now in
    let w = c.args.what in
    let e = c.args.extra in
    let q = widened w p e in
    let readings = lists.0 in
    let times : AreTimes p x readings c.args.e.now = record { are_readings = lists.1; listed = lists.2 } in
    let spans = span_bounds readings in
    let stamps = event_bounds 0 p.events in
    widened_verdict w p e x readings c.judge_joining.result c.events.ensures.lawful.formed lists.1
    (judges_on q x (spans ++ stamps) (joining_bounds p readings) c.judge_joining.result
    (judges_on q x spans stamps verdicts.Obeys (rw c.in-Obeys.is at (c.judge_spans.ensures.verdict x readings times)) (rw c.in-Obeys-judge_stamps.is at (c.judge_stamps.ensures.verdict x readings times)))
    (c.judge_joining.ensures.verdict x readings times))

pub returns-in_default-judge_stamps-clause-verdict : goal.returns-in_default-judge_stamps-clause-verdict
returns-in_default-judge_stamps-clause-verdict c = λ x lists.
    let p = c.args.p.now in
    let w = c.args.what in
    let e = c.args.extra in
    let q = widened w p e in
    let readings = lists.0 in
    let times : AreTimes p x readings c.args.e.now = record { are_readings = lists.1; listed = lists.2 } in
    let spans = span_bounds readings in
    let stamps = event_bounds 0 p.events in
    widened_verdict w p e x readings c.judge_stamps.result c.events.ensures.lawful.formed lists.1
    (judges_first q x (spans ++ stamps) (joining_bounds p readings) c.judge_stamps.result c.in_default-judge_stamps.not-Obeys
    (judges_on q x spans stamps c.judge_stamps.result (rw c.in-Obeys.is at (c.judge_spans.ensures.verdict x readings times)) (c.judge_stamps.ensures.verdict x readings times)))

pub returns-in_default-clause-verdict : goal.returns-in_default-clause-verdict
returns-in_default-clause-verdict c = λ x lists.
    let p = c.args.p.now in
    let w = c.args.what in
    let e = c.args.extra in
    let q = widened w p e in
    let readings = lists.0 in
    let times : AreTimes p x readings c.args.e.now = record { are_readings = lists.1; listed = lists.2 } in
    let spans = span_bounds readings in
    let stamps = event_bounds 0 p.events in
    widened_verdict w p e x readings c.judge_spans.result c.events.ensures.lawful.formed lists.1
    (judges_first q x (spans ++ stamps) (joining_bounds p readings) c.judge_spans.result c.in_default.not-Obeys
    (judges_first q x spans stamps c.judge_spans.result c.in_default.not-Obeys (c.judge_spans.ensures.verdict x readings times)))
