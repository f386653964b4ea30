use Rattle.std.proofs.Common.{map, arith}
use Rattle.ports.proofs.Writing.{leaves_all}
use Rattle.session.specs.Stands.{under_of}
use Rattle.merge_script.specs.Notes.{notes_held}
use Rattle.merge_script.proofs.Noted.{note_cut, note_written, notes_written}
use Rattle.merge_script.proofs.notes.write_all.Goals as goal

pub loop-place-init : goal.loop-place-init
loop-place-init g c = leaves_all (g.N.Sink.told c.args.notes.now) (notes_held c.args.labels.now (map under_of c.args.under.now))

pub returns-in_err-write_on : goal.returns-in_err-write_on
returns-in_err-write_on g c =
    note_cut c.args.labels.now c.args.under.now c.loop-place.place c.index-labels-place.result c.index-under-place.result c.loop-place-test.true c.requires c.index-labels-place.is c.index-under-place.is
    c.loop-place.invariant c.from_residual.ensures.0 c.in_err-write_on.ensures

pub loop-place-preserved : goal.loop-place-preserved
loop-place-preserved g c =
    note_written c.args.labels.now c.args.under.now c.loop-place.place c.index-labels-place.result c.index-under-place.result c.loop-place-test.true c.requires c.index-labels-place.is c.index-under-place.is
    c.loop-place.invariant c.in_ok-write_on.ensures

pub returns : goal.returns
returns g c = notes_written c.args.labels.now (map under_of c.args.under.now) c.loop-place.place (omega (arith, c.loop-place-test.false)) c.loop-place.invariant
