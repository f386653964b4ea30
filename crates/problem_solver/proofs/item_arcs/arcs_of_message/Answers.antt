use Rattle.problem_graph.specs.BoundArcs.{arcs_in}
use Rattle.problem_solver.proofs.ItemArcs.{message_among}
use Rattle.problem_solver.proofs.item_arcs.arcs_of_message.Goals as goal

pub returns : goal.returns
returns c = λ rs are.
    message_among c.args.p.now rs are c.events.ensures.lawful c.args.message.now c.requires (arcs_in c.message_arcs.result) c.message_arcs.ensures
