use Rattle.std.specs.List.{flat_map}
use Rattle.problem_model.specs.ShortList.{follow_bounds, message_bounds}
use Rattle.cert_check.specs.Widened.{widened}
use Rattle.cert_check.proofs.Judging.{judges_on, judges_first}
use Rattle.cert_check.proofs.verdict.judge_joining.Goals as goal

pub returns-in-Obeys-clause-verdict : goal.returns-in-Obeys-clause-verdict
returns-in-Obeys-clause-verdict c = λ x readings times.
    let p = c.args.p.now in
    let w = c.args.what in
    let e = c.args.extra in
    judges_on (widened w p e) x (follow_bounds p.follows readings 0 p.clocks) (flat_map message_bounds p.messages) c.judge_messages.result
    (rw c.in-Obeys.is at (c.judge_follows.ensures.verdict x readings times)) (c.judge_messages.ensures.verdict x readings times)

pub returns-in_default-clause-verdict : goal.returns-in_default-clause-verdict
returns-in_default-clause-verdict c = λ x readings times.
    let p = c.args.p.now in
    let w = c.args.what in
    let e = c.args.extra in
    judges_first (widened w p e) x (follow_bounds p.follows readings 0 p.clocks) (flat_map message_bounds p.messages) c.judge_follows.result c.in_default.not-Obeys
    (c.judge_follows.ensures.verdict x readings times)
