use Rattle.std.proofs.Common.{◌≡◌, None, Some, Err, ap, refl, rules}
use Rattle.problem_model.specs.Problem.{ProblemLists}
use Rattle.problem.specs.Faults.{line_error}
use Rattle.problem.specs.Written.{NanoIs}
use Rattle.problem.proofs.Growing.{absent, at_none}
use Rattle.problem.proofs.Taking.{event_taken, event_refused, more_bounded}
use Rattle.problem.proofs.lines.take_event.Goals as goal

pub returns-in-Some-event_place-clause-taken : goal.returns-in-Some-event_place-clause-taken
returns-in-Some-event_place-clause-taken c = λ version t is fits. at_none (λ x. x.name) c.args.items.now.events c.args.name.now fits.0 c.in-Some-event_place._place c.in-Some-event_place.ensures.some

pub returns-in-None-clause-taken : goal.returns-in-None-clause-taken
returns-in-None-clause-taken c = λ version t is.
    let out : NanoIs None t = rw c.in_default-stamp.is at is in
    ((absent (λ x. x.name) c.args.items.now.events c.args.name.now c.in-None.ensures.none, (c.in-Some.place, c.in-Some.ensures.some)), out)

pub returns-clause-taken : goal.returns-clause-taken
returns-clause-taken c = λ version t is.
    let fits : NanoIs (Some c.in-Some-stamp.stamp) t = rw c.in-Some-stamp.is at is in
    rw (c.in_ok-add_event.ensures.ok, fits.1) (event_taken version c.args.items.now c.args.name.now c.args.clock.now c.in-Some.place t c.requires.messages c.in-Some.ensures.some)

pub returns-in_err-allows_event-clause-taken : goal.returns-in_err-allows_event-clause-taken
returns-in_err-allows_event-clause-taken c = λ version t is.
    let fits : NanoIs (Some c.in-Some-stamp.stamp) t = rw c.in-Some-stamp.is at is in
    let made : c.from_residual.result ≡ Err (line_error c.in_err-allows_event.field-0.0) = search rules in
    rw made (event_refused version c.args.items.now _ c.args.name.now c.args.clock.now c.in-Some.place c.in-Some-stamp.stamp t _ c.requires.bounds c.in-Some.ensures.some c.in-Some.ensures.within fits c.in_err-allows_event.ensures)

pub returns-clause-bounds : goal.returns-clause-bounds
returns-clause-bounds c = more_bounded _ c.args.items.now.events _ _ (ap (λ (p : ProblemLists). p.events) c.in_ok-add_event.ensures.ok) refl c.requires.bounds
