use Rattle.std.proofs.Common.{◌≡◌, ◌<◌, List, None, length, get_or, sym, ◌∙◌, ap, subst}
use Rattle.std.proofs.lemmas.List.{get_or_default}
use Rattle.problem_model.specs.declared.items.Message.{Message}
use Rattle.problem_model.specs.Nodes.{nodes_of}
use Rattle.problem_model.specs.ShortList.{message_bounds}
use Rattle.problem_graph.specs.BoundArcs.{arcs_in}
use Rattle.problem_solver.specs.declared.items.Item.{Item}
use Rattle.problem_solver.specs.Items.{IsItem, bounds_of, message_at}
use Rattle.problem_solver.specs.Pushing.{AreBoundsAmong}
use Rattle.problem_solver.proofs.item_arcs.item_arcs.Goals as goal

pub returns-in-Event : goal.returns-in-Event
returns-in-Event c =
    let p = c.args.p.now in
    let rs = c.args.readings.now in
    subst (λ (i : Item). AreBoundsAmong p (nodes_of p rs) (bounds_of p rs i) (arcs_in c.arcs_of_event.result)) (sym c.in-Event.is) (c.arcs_of_event.ensures rs c.requires.readings)

pub returns-in-Message : goal.returns-in-Message
returns-in-Message c =
    let p = c.args.p.now in
    let rs = c.args.readings.now in
    let m : Message = c.index-messages-m.result in
    let none : Message = record { send = 0; receive = 0; least = 0; most = None } in
    let inside : c.in-Message.m < length p.messages = subst (IsItem p rs) c.in-Message.is c.requires.item in
    let within : c.in-Message.m < length c.messages.result.now = subst (λ (ms : List Message). c.in-Message.m < length ms) (sym c.messages.ensures.value) inside in
    let here : m ≡ message_at p.messages c.in-Message.m =
    c.index-messages-m.is ∙ get_or_default c.messages.result.now c.in-Message.m m none within ∙ ap (λ (ms : List Message). get_or ms c.in-Message.m none) c.messages.ensures.value in
    subst (λ (i : Item). AreBoundsAmong p (nodes_of p rs) (bounds_of p rs i) (arcs_in c.arcs_of_message.result)) (sym c.in-Message.is)
    (subst (λ (n : Message). AreBoundsAmong p (nodes_of p rs) (message_bounds n) (arcs_in c.arcs_of_message.result)) here (c.arcs_of_message.ensures rs c.requires.readings))
