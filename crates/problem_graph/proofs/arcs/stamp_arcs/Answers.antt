use Rattle.std.proofs.Common.{rules}
use Rattle.std.proofs.lemmas.Int.{to_z-of_z}
use mir.Syntax.{w128}
use mir.Val.{SFits}
use Rattle.problem_graph.proofs.MadeArcs.{stamp_are}
use Rattle.problem_graph.proofs.arcs.stamp_arcs.Goals as goal

pub returns : goal.returns
returns c =
    let fits : SFits w128 c.delay_units.result = search rules in
    let fits_early : SFits w128 c.delay_units-2.result = search rules in
    simp to_z-of_z (stamp_are c.args.event c.args.place c.args.stamp c.args.reading c.args.node c.args.clock.now c.args.own.now c.delay_units.result c.delay_units-2.result
    (rw c.late_by.ensures at c.delay_units.ensures.exact) (rw c.early_by.ensures at c.delay_units-2.ensures.exact) (rw c.late_by.ensures at c.delay_units.ensures.below) (rw c.early_by.ensures at c.delay_units-2.ensures.below))
