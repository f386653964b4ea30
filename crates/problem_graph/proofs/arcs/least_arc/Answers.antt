use Rattle.std.proofs.Common.{rules, arith}
use Rattle.std.specs.Prelude.{pos, ◌-ℤ◌}
use Rattle.std.proofs.lemmas.Int.{ints, to_z-of_z}
use mir.Syntax.{w128}
use mir.Val.{SFits}
use Rattle.problem_graph.proofs.MadeArcs.{least_are}
use Rattle.problem_graph.proofs.arcs.least_arc.Goals as goal

pub returns : goal.returns
returns c =
    let fits : SFits w128 c.delay_units.result = search rules in
    let fits_turned : SFits w128 (pos 0 -ℤ c.delay_units.result) = search rules in
    simp to_z-of_z (least_are c.args.message.now c.args.send c.args.receive (pos 0 -ℤ c.delay_units.result)
    (omega (arith, ints, c.delay_units.ensures.exact)) c.delay_units.ensures.below)
