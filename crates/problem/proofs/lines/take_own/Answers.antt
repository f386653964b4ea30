use Rattle.std.proofs.Common.{◌≡◌, None, Some, Err, ap, refl, rules}
use Rattle.problem_model.specs.Problem.{ProblemLists}
use Rattle.problem.specs.Faults.{line_error}
use Rattle.problem.specs.Written.{OwnIs}
use Rattle.problem.proofs.Growing.{absent, at_none}
use Rattle.problem.proofs.Taking.{own_taken, own_refused, more_bounded, some_more}
use Rattle.problem.proofs.lines.take_own.Goals as goal

pub returns-in-Some-event_place-clause-taken : goal.returns-in-Some-event_place-clause-taken
returns-in-Some-event_place-clause-taken c = λ version s e t is fits. at_none (λ x. x.name) c.args.items.now.events c.args.name.now fits.0 c.in-Some-event_place._place c.in-Some-event_place.ensures.some

pub returns-in-None-clause-taken : goal.returns-in-None-clause-taken
returns-in-None-clause-taken c = λ version s e t is.
    let out : OwnIs None s e t = rw c.in_default-own.is at is in
    ((absent (λ x. x.name) c.args.items.now.events c.args.name.now c.in-None.ensures.none, (c.in-Some.place, c.in-Some.ensures.some)), out)

pub returns-in_err-allows_event-clause-taken : goal.returns-in_err-allows_event-clause-taken
returns-in_err-allows_event-clause-taken c = λ version s e t is.
    let fits : OwnIs (Some c.in-Some-own.own) s e t = rw c.in-Some-own.is at is in
    let made : c.from_residual.result ≡ Err (line_error c.in_err-allows_event.field-0.0) = search rules in
    rw made (own_refused version c.args.items.now _ c.args.name.now c.args.clock.now c.in-Some.place c.in-Some-own.own s e t _ c.requires.bounds c.in-Some.ensures.some c.in-Some.ensures.within fits c.in_err-allows_event.ensures)

pub returns-clause-taken : goal.returns-clause-taken
returns-clause-taken c = λ version s e t is.
    let fits : OwnIs (Some c.in-Some-own.own) s e t = rw c.in-Some-own.is at is in
    rw c.in_ok-add_event.ensures.ok (own_taken version c.args.items.now c.args.name.now c.args.clock.now c.in-Some.place c.in-Some-own.own s e t c.requires.messages c.in-Some.ensures.some fits)

pub returns-clause-some : goal.returns-clause-some
returns-clause-some c = some_more c.args.items.now.events _ _ (ap (λ (p : ProblemLists). p.events) c.in_ok-add_event.ensures.ok)

pub returns-clause-bounds : goal.returns-clause-bounds
returns-clause-bounds c = more_bounded _ c.args.items.now.events _ _ (ap (λ (p : ProblemLists). p.events) c.in_ok-add_event.ensures.ok) refl c.requires.bounds
