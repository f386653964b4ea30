use Rattle.std.proofs.Common.{◌++◌, ◌-◌, List, length, sym, ◌∙◌, ap, subst, arith}
use Rattle.problem_model.specs.declared.items.Bound.{Bound}
use Rattle.sync_graph.specs.Graph.{GraphLists}
use Rattle.problem_graph.specs.BoundArcs.{arcs_in}
use Rattle.problem_graph.proofs.MadeArcs.{as_many}
use Rattle.roster.specs.Growing.{IsGrowing}
use Rattle.session_graph.specs.Pushes.{Brings}
use Rattle.session_graph.proofs.OneMessage.{arcs_of_message, some_bound, two_few}
use Rattle.session_graph.proofs.joints.push_message.Goals as goal

pub push_arcs-requires-clause-fit : goal.push_arcs-requires-clause-fit
push_arcs-requires-clause-fit g c = c.message_arcs-arcs.ensures.fit c.args.solver.now.graph.nodes (c.number_of-send.ensures, c.number_of-receive.ensures)

pub push_arcs-requires-clause-room : goal.push_arcs-requires-clause-room
push_arcs-requires-clause-room g c =
    let many = as_many c.message_arcs-arcs.ensures in
    let few = two_few c.args.message.now in
    let room = c.requires.room in
    omega (arith, many, few, room)

pub returns-clause-brings : goal.returns-clause-brings
returns-clause-brings g c = subst (λ (bs : List Bound). Brings bs c.args.solver.now c.push_arcs.new.solver) c.message_arcs-arcs.ensures.named c.in_ok-push_arcs.ensures.brings

pub returns-clause-arc : goal.returns-clause-arc
returns-clause-arc g c =
    let some = some_bound c.args.message.now in
    let count = c.in_ok-push_arcs.ensures.brings.count in
    let many = ap length c.message_arcs-arcs.ensures.named in
    let long = c.arcs.ensures ∙ ap (λ (h : GraphLists). length h.arcs) c.graph.ensures in
    arcs_of_message c.args.message.now c.args.solver.now c.push_arcs.new.solver (arcs_in c.message_arcs-arcs.result) c.requires.current c.in_ok-push_arcs.ensures.graph c.message_arcs-arcs.ensures.named
    (c.arcs.result - 1) (omega (arith, some, count, many, long))

pub returns-clause-left : goal.returns-clause-left
returns-clause-left g c = λ p entered rest held is.
    c.in_ok-push_arcs.ensures.left p entered rest
    (c.message_arcs-arcs.ensures.declared p c.args.solver.now.graph.nodes (c.number_of-send.ensures, c.number_of-receive.ensures) held)
    (subst (λ (bs : List Bound). IsGrowing p entered (bs ++ rest) c.args.solver.now.graph) (sym c.message_arcs-arcs.ensures.named) is)
