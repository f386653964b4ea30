use Rattle.std.proofs.Common.{◌≡◌, Some, Err, rules}
use Rattle.problem.specs.Faults.{line_error}
use Rattle.problem.specs.Written.{NanoIs}
use Rattle.problem.proofs.Taking.{follow_refused, follow_taken}
use Rattle.problem.proofs.lines.take_follow.Goals as goal

pub returns-in_err-allows_follow-clause-taken : goal.returns-in_err-allows_follow-clause-taken
returns-in_err-allows_follow-clause-taken c = λ version g gap_is.
    let is : c.from_residual.result ≡ Err (line_error c.in_err-allows_follow.field-0.0) = search rules in
    rw is (follow_refused version c.args.items.now c.clock_place.ensures.lawful c.args.earlier.now c.args.later.now c.in-Some.c c.in-Some-clock_place.d c.in-Some-gap.gap c.in-Some.ensures.some c.in-Some-clock_place.ensures.some _ _ g c.in_err-allows_follow.ensures)

pub returns-clause-taken : goal.returns-clause-taken
returns-clause-taken c = λ version g gap_is.
    let gap : NanoIs (Some c.in-Some-gap.gap) g = rw c.in-Some-gap.is at gap_is in
    rw c.in_ok-add_follow.ensures.ok (follow_taken version c.args.items.now c.args.earlier.now c.args.later.now c.in-Some.c c.in-Some-clock_place.d c.in-Some-gap.gap g c.requires.events c.requires.messages c.in-Some.ensures.some c.in-Some-clock_place.ensures.some gap)
