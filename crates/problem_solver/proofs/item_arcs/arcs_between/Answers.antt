use Rattle.std.proofs.lemmas.Option.{slice_get_within}
use Rattle.problem_graph.specs.BoundArcs.{arcs_in}
use Rattle.problem_solver.proofs.ItemArcs.{follow_among}
use Rattle.problem_solver.proofs.item_arcs.arcs_between.Goals as goal

pub place_of-first-requires : goal.place_of-first-requires
place_of-first-requires c = c.requires.4

pub place_of-second-requires : goal.place_of-second-requires
place_of-second-requires c = c.requires.5

pub node_of_reading-first-requires : goal.node_of_reading-first-requires
node_of_reading-first-requires c = λ rs are. slice_get_within rs c.place_of-first.result (c.args.f.now.earlier, c.args.f.now.s) (c.place_of-first.ensures rs are)

pub node_of_reading-second-requires : goal.node_of_reading-second-requires
node_of_reading-second-requires c = λ rs are. slice_get_within rs c.place_of-second.result (c.args.later, c.args.f.now.t) (c.place_of-second.ensures rs are)

pub returns : goal.returns
returns c = λ rs are.
    let f = c.args.f.now in
    follow_among c.args.p.now rs are f.earlier f.s c.args.later f.t f.gap c.place_of-first.result c.place_of-second.result c.requires
    (c.place_of-first.ensures rs are) (c.place_of-second.ensures rs are)
    c.node_of_reading-first.result c.node_of_reading-second.result c.node_of_reading-first.ensures.node c.node_of_reading-second.ensures.node
    (arcs_in c.follow_arcs.result) c.follow_arcs.ensures
