use Rattle.std.proofs.Common.{◌<◌, length, sym, arith}
use Rattle.problem_model.specs.Nodes.{nodes_of}
use Rattle.problem_model.specs.ExecutionText.{value_lines}
use Rattle.problem.specs.Listing.{all_readings}
use Rattle.ports.proofs.Writing.{leaves_all, leaves_as}
use Rattle.cert.proofs.Certificates.{timed_lines, one_each, units_back, value_written, value_cut, values_written}
use Rattle.cert.proofs.lists.write_values.Goals as goal

pub loop-place-init : goal.loop-place-init
loop-place-init g c =
    let p = c.args.p.now in
    let values = c.args.execution.now in
    leaves_as (sym (timed_lines p values c.requires)) (leaves_all (g.O.Sink.told c.args.out.now) (value_lines p (nodes_of p (all_readings p.events)) values))

pub value-requires : goal.value-requires
value-requires g c = omega (arith, c.loop-place-test.true, c.len-place-end.ensures.count)

pub write_value-requires : goal.write_value-requires
write_value-requires g c = let same = one_each c.args.p.now c.args.execution.now c.requires in omega (arith, c.loop-place-test.true, c.len-place-end.ensures.count, same)

pub returns-in_err-write_value : goal.returns-in_err-write_value
returns-in_err-write_value g c =
    let values = c.args.execution.now in
    let inside : c.loop-place.place < length values = omega (arith, c.loop-place-test.true, c.len-place-end.ensures.count) in
    value_cut c.args.p.now values c.requires c.loop-place.place c.value.result _ (units_back c.get.result c.value.result c.get.ensures.value c.get.ensures.fits) inside c.value.ensures.value
    c.loop-place.invariant c.from_residual.ensures.0 c.in_err-write_value.ensures

pub loop-place-preserved : goal.loop-place-preserved
loop-place-preserved g c =
    let values = c.args.execution.now in
    let inside : c.loop-place.place < length values = omega (arith, c.loop-place-test.true, c.len-place-end.ensures.count) in
    value_written c.args.p.now values c.requires c.loop-place.place c.value.result _ (units_back c.get.result c.value.result c.get.ensures.value c.get.ensures.fits) inside c.value.ensures.value
    c.loop-place.invariant c.in_ok-write_value.ensures

pub returns : goal.returns
returns g c = values_written c.args.p.now c.args.execution.now c.requires c.loop-place.place (omega (arith, c.loop-place-test.false, c.len-place-end.ensures.count)) c.loop-place.invariant
