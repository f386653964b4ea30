use Rattle.std.proofs.Common.{rules}
use Rattle.std.proofs.lemmas.Int.{to_z-of_z}
use mir.Syntax.{w128}
use mir.Val.{SFits}
use Rattle.problem_graph.proofs.MadeArcs.{both_are, least_alone}
use Rattle.problem_graph.proofs.arcs.message_arcs.Goals as goal

pub returns-in-Some : goal.returns-in-Some
returns-in-Some c =
    let fits : SFits w128 c.delay_units.result = search rules in
    simp to_z-of_z (both_are c.args.message.now c.args.send c.args.receive c.least_arc-least.result c.least_arc-least.ensures c.in-Some.most c.delay_units.result
    c.in-Some.is c.delay_units.ensures.exact c.delay_units.ensures.below)

pub returns-in-None : goal.returns-in-None
returns-in-None c = least_alone c.args.message.now c.args.send c.args.receive c.least_arc-least.result c.least_arc-least.ensures c.in-None.is
