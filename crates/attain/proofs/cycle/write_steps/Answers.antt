use Rattle.std.proofs.Common.{length, refl, slice_get, Some, ◌≡◌, ◌+◌}
use Rattle.std.proofs.lemmas.Option.{slice_get_read}
use Rattle.ports.proofs.Writing.{leaves_as, leaves_less, leaves_cut, leaves_none}
use Rattle.attain.proofs.Lines.{steps_from, steps_more, steps_none}
use Rattle.attain.proofs.cycle.write_steps.Goals as goal

pub loop-arc-preserved : goal.loop-arc-preserved
loop-arc-preserved g c =
    let k = c.loop-arc.arc-index in
    let a = c.arc-item.result in
    let at : slice_get c.args.cycle.now k ≡ Some a = slice_get_read c.args.cycle.now (length c.args.cycle.now) k a refl c.loop-arc-test.true c.arc-item.is in
    leaves_less (leaves_as (steps_more (g.N.Listing.listed c.args.names.now) c.args.cycle.now k a at) c.loop-arc.invariant) c.in_ok-write_arc.ensures

pub returns-in_err-write_arc : goal.returns-in_err-write_arc
returns-in_err-write_arc g c =
    let l = g.N.Listing.listed c.args.names.now in
    let k = c.loop-arc.arc-index in
    let a = c.arc-item.result in
    let at : slice_get c.args.cycle.now k ≡ Some a = slice_get_read c.args.cycle.now (length c.args.cycle.now) k a refl c.loop-arc-test.true c.arc-item.is in
    leaves_cut (steps_from l c.args.cycle.now (k + 1)) (leaves_as (steps_more l c.args.cycle.now k a at) c.loop-arc.invariant) c.from_residual.ensures.0 c.in_err-write_arc.ensures

pub returns : goal.returns
returns g c = leaves_none (leaves_as (steps_none (g.N.Listing.listed c.args.names.now) c.args.cycle.now c.loop-arc.arc-index c.loop-arc-test.false) c.loop-arc.invariant)
