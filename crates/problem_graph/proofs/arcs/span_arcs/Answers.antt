use Rattle.std.proofs.Common.{rules, arith}
use Rattle.std.specs.Prelude.{pos, ◌-ℤ◌}
use Rattle.std.proofs.lemmas.Int.{ints, to_z-of_z}
use mir.Syntax.{w128}
use mir.Val.{SFits}
use Rattle.problem_graph.proofs.MadeArcs.{span_are}
use Rattle.problem_graph.proofs.arcs.span_arcs.Goals as goal

pub returns : goal.returns
returns c =
    let fits : SFits w128 c.span_most.result = search rules in
    let fits_least : SFits w128 c.span_least.result = search rules in
    let fits_turned : SFits w128 (pos 0 -ℤ c.span_least.result) = search rules in
    simp to_z-of_z (span_are c.args.place c.args.s c.args.t c.args.first c.args.second c.args.clock.now c.requires c.span_most.result (pos 0 -ℤ c.span_least.result)
    c.span_most.ensures.exact (omega (arith, ints, c.span_least.ensures.exact)) c.span_most.ensures.below c.span_least.ensures.below)
