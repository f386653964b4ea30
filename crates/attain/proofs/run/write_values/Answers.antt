use Rattle.std.proofs.Common.{◌≡◌, ◌<◌, ◌∙◌, length, arith, to_z, of_z}
use Rattle.std.proofs.lemmas.Int.{to_z-of_z}
use mir.Syntax.{w128}
use Rattle.problem_model.specs.Executions.{at}
use Rattle.problem.specs.Listing.{listed_nodes}
use Rattle.attain.proofs.Lines.{value_written, value_cut, values_written}
use Rattle.attain.proofs.run.write_values.Goals as goal

pub loop-place-preserved : goal.loop-place-preserved
loop-place-preserved g c =
    let l = g.N.Listing.listed c.args.names.now in
    let k = c.loop-place.place in
    let inside : k < length (listed_nodes l) = omega (arith, c.loop-place-test.true, c.node_count-place-end.ensures) in
    let is : to_z w128 (of_z w128 c.value-value.result) ≡ at c.args.e.now.values c.node_at.result = to_z-of_z w128 c.value-value.result (record { sfits = c.value-value.type_inv }) ∙ c.value-value.ensures in
    value_written l (at c.args.e.now.values) k c.node_at.result (to_z w128 (of_z w128 c.value-value.result)) is inside c.node_at.ensures c.loop-place.invariant _ c.in_ok-write_value.ensures

pub returns-in_err-write_value : goal.returns-in_err-write_value
returns-in_err-write_value g c =
    let l = g.N.Listing.listed c.args.names.now in
    let k = c.loop-place.place in
    let inside : k < length (listed_nodes l) = omega (arith, c.loop-place-test.true, c.node_count-place-end.ensures) in
    let is : to_z w128 (of_z w128 c.value-value.result) ≡ at c.args.e.now.values c.node_at.result = to_z-of_z w128 c.value-value.result (record { sfits = c.value-value.type_inv }) ∙ c.value-value.ensures in
    value_cut l (at c.args.e.now.values) k c.node_at.result (to_z w128 (of_z w128 c.value-value.result)) is inside c.node_at.ensures c.loop-place.invariant _ c.from_residual.result c.from_residual.ensures.0 c.in_err-write_value.ensures

pub returns : goal.returns
returns g c = values_written (g.N.Listing.listed c.args.names.now) (at c.args.e.now.values) c.loop-place.place (omega (arith, c.loop-place-test.false, c.node_count-place-end.ensures)) c.loop-place.invariant
