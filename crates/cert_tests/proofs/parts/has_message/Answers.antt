use Rattle.std.proofs.Common.{◌≡◌, ◌*◌, List, refl, sym, subst, rules}
use Rattle.std.specs.Prelude.{Contains, pos, neg_ℤ}
use Rattle.problem_model.specs.declared.items.Message.{Message}
use Rattle.problem_model.specs.declared.items.Node.TheVariants as nodes
use Rattle.cert_tests.proofs.parts.has_message.Goals as goal

pub returns-then-message-receive : goal.returns-then-message-receive
returns-then-message-receive c = λ yes.
    let m : Message = c.message-item.result in
    let there : Contains c.args.p.now.messages m = subst (λ (ms : List Message). Contains ms m) c.messages-message-items.ensures.value (c.loop-message.message-index, c.loop-message-test.true, sym c.message-item.is) in
    let send : m.send ≡ c.args.send = search rules in
    let receive : m.receive ≡ c.args.receive = search rules in
    (record { from = nodes.Event c.args.receive; to = nodes.Event c.args.send; weight = neg_ℤ (pos (m.least * 1000000000)) }, (m, there, send, receive, refl))
