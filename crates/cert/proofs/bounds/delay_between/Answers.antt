use Rattle.std.proofs.Common.{◌≡◌, ◌<◌, List, length, get_or, rules, sym, subst, ◌∙◌, ap}
use Rattle.problem_model.specs.declared.items.Message.{Message}
use Rattle.cert.specs.CertificateFormat.{IsDeclared, delay_bound}
use Rattle.cert.specs.TakesPart.{HasDelayBound}
use Rattle.cert.proofs.Declaring.{message_inside, delay_declared, delay_place, delay_has}
use Rattle.cert.proofs.Forms.{none_anyway}
use Rattle.cert.proofs.bounds.delay_between.Goals as goal

pub returns-in_err-place-clause-none : goal.returns-in_err-place-clause-none
returns-in_err-place-clause-none c =
    let none : IsDeclared c.args.p.now (delay_bound c.args.extreme c.args.send c.args.receive) → ⊥ = λ d. let k = delay_place c.args.p.now c.messages-messages.ensures.lawful c.args.extreme c.args.send c.args.receive d in c.in_err-place.ensures.none k.0 k.1 in
    none_anyway _ none

pub bounds-messages-place : goal.bounds-messages-place
bounds-messages-place c =
    subst (λ (ms : List Message). c.in_ok-place.place < length ms) (sym c.messages-messages.ensures.value)
    (message_inside c.args.p.now c.messages-messages.ensures.lawful c.in_ok-place.place c.args.send c.args.receive c.in_ok-place.ensures.some)

pub returns-then-not-has_bound-clause-none : goal.returns-then-not-has_bound-clause-none
returns-then-not-has_bound-clause-none c = λ d.
    let m : Message = c.index-messages-place.result in
    let k = c.in_ok-place.place in
    let is : m ≡ get_or c.args.p.now.messages k m = c.index-messages-place.is ∙ ap (λ (ms : List Message). get_or ms k m) c.messages-messages.ensures.value in
    let has : HasDelayBound c.args.extreme m = delay_has c.args.p.now c.messages-messages.ensures.lawful c.args.extreme k c.args.send c.args.receive m c.in_ok-place.ensures.some is d in
    search rules

pub returns-clause-some : goal.returns-clause-some
returns-clause-some c =
    let m : Message = c.index-messages-place.result in
    let k = c.in_ok-place.place in
    let is : m ≡ get_or c.args.p.now.messages k m = c.index-messages-place.is ∙ ap (λ (ms : List Message). get_or ms k m) c.messages-messages.ensures.value in
    let has : HasDelayBound c.args.extreme m = search rules in (
      c.delay_named.ensures,
      subst (IsDeclared c.args.p.now) (sym c.delay_named.ensures) (delay_declared c.args.p.now c.messages-messages.ensures.lawful c.args.extreme k c.args.send c.args.receive m c.in_ok-place.ensures.some is has),
    )
