use Rattle.std.proofs.Common.{◌≡◌, ◌<◌, ◌∙◌, ℕ, ℤ, length, arith, to_z, of_z}
use Rattle.std.proofs.lemmas.Int.{to_z-of_z}
use mir.Syntax.{w128}
use mir.Val.{SFits}
use Rattle.problem_model.specs.Rows.{attaining}
use Rattle.problem.specs.Listing.{listed_nodes}
use Rattle.attain.specs.RowLists.{cells_for}
use Rattle.attain.specs.Sides.{differences}
use Rattle.attain.proofs.Lines.{value_written, value_cut, values_written}
use Rattle.attain.proofs.lead.write_times.Goals as goal

pub loop-place-preserved : goal.loop-place-preserved
loop-place-preserved g c =
    let l = g.N.Listing.listed c.args.names.now in
    let cells = cells_for c.args.side c.args.rows.now in
    let x : ℕ → ℤ = attaining cells.known (differences c.args.side cells) c.args.rows.now.values (to_z w128 (of_z w128 c.args.lead)) in
    let k = c.loop-place.place in
    let inside : k < length (listed_nodes l) = omega (arith, c.loop-place-test.true, c.node_count-place-end.ensures) in
    let is : to_z w128 (of_z w128 c.real_time-time.result) ≡ x c.node_at.result = to_z-of_z w128 c.real_time-time.result (record { sfits = c.real_time-time.type_inv }) ∙ c.real_time-time.ensures in
    value_written l x k c.node_at.result (to_z w128 (of_z w128 c.real_time-time.result)) is inside c.node_at.ensures c.loop-place.invariant _ c.in_ok-write_value.ensures

pub returns-in_err-write_value : goal.returns-in_err-write_value
returns-in_err-write_value g c =
    let l = g.N.Listing.listed c.args.names.now in
    let cells = cells_for c.args.side c.args.rows.now in
    let x : ℕ → ℤ = attaining cells.known (differences c.args.side cells) c.args.rows.now.values (to_z w128 (of_z w128 c.args.lead)) in
    let k = c.loop-place.place in
    let inside : k < length (listed_nodes l) = omega (arith, c.loop-place-test.true, c.node_count-place-end.ensures) in
    let is : to_z w128 (of_z w128 c.real_time-time.result) ≡ x c.node_at.result = to_z-of_z w128 c.real_time-time.result (record { sfits = c.real_time-time.type_inv }) ∙ c.real_time-time.ensures in
    let fits : SFits w128 c.args.lead = c.ranges.lead in
    simp to_z-of_z at (value_cut l x k c.node_at.result (to_z w128 (of_z w128 c.real_time-time.result)) is inside c.node_at.ensures c.loop-place.invariant _ c.from_residual.result c.from_residual.ensures.0 c.in_err-write_value.ensures)

pub returns : goal.returns
returns g c =
    let cells = cells_for c.args.side c.args.rows.now in
    let x : ℕ → ℤ = attaining cells.known (differences c.args.side cells) c.args.rows.now.values (to_z w128 (of_z w128 c.args.lead)) in
    let fits : SFits w128 c.args.lead = c.ranges.lead in
    simp to_z-of_z at (values_written (g.N.Listing.listed c.args.names.now) x c.loop-place.place (omega (arith, c.loop-place-test.false, c.node_count-place-end.ensures)) c.loop-place.invariant)
