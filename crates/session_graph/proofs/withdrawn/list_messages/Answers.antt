use Rattle.std.proofs.Common.{sym, subst, arith}
use Rattle.problem_model.specs.declared.items.Message.{Message}
use Rattle.session_graph.specs.Kept.{TellsArc}
use Rattle.session_graph.proofs.withdrawn.list_messages.Goals as goal

pub list_message-requires : goal.list_message-requires
list_message-requires c =
    let (g, told) = c.requires in
    (g, subst (λ (x : Message). TellsArc c.args.roster.now g x) (sym c.message-item.is) (told c.loop-message.message-index c.message-item.result (omega (arith, c.loop-message-test.true))))
