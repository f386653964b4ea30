use Rattle.std.proofs.Common.{◌≡◌, ◌∙◌, ℕ, Some, None, ap, sym, subst}
use Rattle.std.specs.Prelude.{Contains}
use Rattle.problem_model.specs.declared.items.Message.{Message}
use Rattle.problem_model.specs.declared.items.Bound.TheVariants as bounds
use Rattle.problem_model.specs.Bounds.{Declares}
use Rattle.cert_check.specs.Walks.{constraint}
use Rattle.cert_check.specs.Widened.{least_left, with_delays, widened_message, widened}
use Rattle.cert_check.proofs.Messages.{message_one, ends_within}
use Rattle.cert_check.proofs.Widening.{contained}
use Rattle.cert_check.proofs.declared.slowest_between.Goals as goal

pub added_to-requires-clause-send : goal.added_to-requires-clause-send
added_to-requires-clause-send c = (ends_within c.args.p.now c.message_between-message.ensures.formed c.message_between-message.result.now c.message_between-message.ensures.message).0

pub added_to-requires-clause-receive : goal.added_to-requires-clause-receive
added_to-requires-clause-receive c = (ends_within c.args.p.now c.message_between-message.ensures.formed c.message_between-message.result.now c.message_between-message.ensures.message).1

pub returns-clause-declares : goal.returns-clause-declares
returns-clause-declares c =
    let p = c.args.p.now in
    let w = c.args.what in
    let e = c.args.extra in
    let q = widened w p e in
    let m : Message = c.message_between-message.result.now in
    let least = least_left w p.events e m in
    let there : Contains q.messages (with_delays least c.added_to.result m) =
    subst (λ (added : ℕ). Contains q.messages (with_delays least added m)) (sym c.added_to.ensures) (contained (widened_message w p.events e) p.messages m c.message_between-message.ensures.message) in
    subst (λ (send : ℕ). Declares q (bounds.DelayMost send c.args.receive) (constraint c.slowest.result)) c.message_between-message.ensures.send
    (subst (λ (receive : ℕ). Declares q (bounds.DelayMost m.send receive) (constraint c.slowest.result)) c.message_between-message.ensures.receive (c.slowest.ensures.declares q least there))

pub unreachable-requires : goal.unreachable-requires
unreachable-requires c =
    let p = c.args.p.now in
    let m : Message = c.message_between-message.result.now in
    let d = c.requires.1 in
    let ends = c.message_between-message.ensures in
    let same : d.0 ≡ m = message_one p ends.formed d.0 m d.2 ends.message (d.3 ∙ sym ends.send) (d.4 ∙ sym ends.receive) in
    let most : m.most ≡ Some d.1 = ap (λ (v : Message). v.most) (sym same) ∙ d.5 in
    let none : m.most ≡ None = c.in-None.is in
    absurd cc
