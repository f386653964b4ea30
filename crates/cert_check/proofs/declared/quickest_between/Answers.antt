use Rattle.std.proofs.Common.{ℕ, sym, subst}
use Rattle.std.specs.Prelude.{Contains}
use Rattle.problem_model.specs.declared.items.Message.{Message}
use Rattle.problem_model.specs.declared.items.Bound.TheVariants as bounds
use Rattle.problem_model.specs.Bounds.{Declares}
use Rattle.cert_check.specs.Walks.{constraint}
use Rattle.cert_check.specs.Widened.{added_to, with_delays, widened_message, widened}
use Rattle.cert_check.proofs.Messages.{ends_within}
use Rattle.cert_check.proofs.Widening.{contained}
use Rattle.cert_check.proofs.declared.quickest_between.Goals as goal

pub least_left-requires-clause-send : goal.least_left-requires-clause-send
least_left-requires-clause-send c = (ends_within c.args.p.now c.message_between-message.ensures.formed c.message_between-message.result.now c.message_between-message.ensures.message).0

pub least_left-requires-clause-receive : goal.least_left-requires-clause-receive
least_left-requires-clause-receive c = (ends_within c.args.p.now c.message_between-message.ensures.formed c.message_between-message.result.now c.message_between-message.ensures.message).1

pub returns-clause-declares : goal.returns-clause-declares
returns-clause-declares c =
    let p = c.args.p.now in
    let w = c.args.what in
    let e = c.args.extra in
    let q = widened w p e in
    let m : Message = c.message_between-message.result.now in
    let added = added_to w p.events e m in
    let there : Contains q.messages (with_delays c.least_left.result added m) =
    subst (λ (least : ℕ). Contains q.messages (with_delays least added m)) (sym c.least_left.ensures) (contained (widened_message w p.events e) p.messages m c.message_between-message.ensures.message) in
    subst (λ (send : ℕ). Declares q (bounds.DelayLeast send c.args.receive) (constraint c.quickest.result)) c.message_between-message.ensures.send
    (subst (λ (receive : ℕ). Declares q (bounds.DelayLeast m.send receive) (constraint c.quickest.result)) c.message_between-message.ensures.receive (c.quickest.ensures.declares q added there))
