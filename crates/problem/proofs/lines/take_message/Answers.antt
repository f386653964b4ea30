use Rattle.std.proofs.Common.{◌≡◌, Some, Err, refl, rules}
use Rattle.problem.specs.Faults.{line_error}
use Rattle.problem.specs.Written.{NanoIs, MostIs}
use Rattle.problem.proofs.Taking.{message_refused, message_taken}
use Rattle.problem.proofs.lines.take_message.Goals as goal

pub returns-in_err-allows_message-clause-taken : goal.returns-in_err-allows_message-clause-taken
returns-in_err-allows_message-clause-taken c = λ version l m least_is most_is.
    let least : NanoIs (Some c.in-Some-least.least) l = rw c.in-Some-least.is at least_is in
    let most : MostIs (Some c.in-Some-most.most) m = rw c.in-Some-most.is at most_is in
    let is : c.from_residual.result ≡ Err (line_error c.in_err-allows_message.field-0.0) = search rules in
    rw is (message_refused version c.args.items.now c.event_place.ensures.lawful c.args.send.now c.args.receive.now c.in-Some.s c.in-Some-event_place.r l m c.in-Some.ensures.some c.in-Some-event_place.ensures.some _ _ (least.0, most.0) c.in_err-allows_message.ensures)

pub returns-clause-taken : goal.returns-clause-taken
returns-clause-taken c = λ version l m least_is most_is.
    let least : NanoIs (Some c.in-Some-least.least) l = rw c.in-Some-least.is at least_is in
    let most : MostIs (Some c.in-Some-most.most) m = rw c.in-Some-most.is at most_is in
    rw c.in_ok-add_message.ensures.ok (message_taken version c.args.items.now _ c.args.send.now c.args.receive.now c.in-Some.s c.in-Some-event_place.r c.in-Some-least.least l c.in-Some-most.most m c.in-Some.ensures.some c.in-Some-event_place.ensures.some least most refl)
