use Rattle.std.proofs.lemmas.Option.{slice_get_within}
use Rattle.problem_model.specs.Bounds.{ClockAt}
use Rattle.problem_model.proofs.Walking.{clock_at}
use Rattle.problem_graph.specs.BoundArcs.{arcs_in}
use Rattle.problem_graph.proofs.BoundEnds.{contains_at}
use Rattle.problem_solver.proofs.ItemArcs.{event_among}
use Rattle.problem_solver.proofs.item_arcs.arcs_of_event.Goals as goal

pub node_of_reading-node-requires : goal.node_of_reading-node-requires
node_of_reading-node-requires c = λ rs are. slice_get_within rs c.args.reading (c.args.event.now.clock, c.args.event.now.stamp) (c.requires.reading rs are)

pub returns : goal.returns
returns c = λ rs are.
    let p = c.args.p.now in
    let v = c.args.event.now in
    let at : ClockAt p v.clock c.index-clocks-event.result =
    clock_at p c.clocks.result.now v c.index-clocks-event.result c.clocks.ensures.lawful.formed c.clocks.ensures.value (contains_at p c.args.place v c.requires.event) c.index-clocks-event.is in
    event_among p rs are c.args.place v c.requires.event c.index-clocks-event.result at c.args.reading (c.requires.reading rs are)
    c.node_of_reading-node.result c.node_of_reading-node.ensures.node (arcs_in c.stamp_arcs.result) c.stamp_arcs.ensures
