use Rattle.std.specs.List.{flat_map}
use Rattle.ports.proofs.Writing.{leaves_all}
use Rattle.mergecap.proofs.Records.{record_bytes, record_cut, record_written, records_written}
use Rattle.mergecap.proofs.write.write_records.Goals as goal

pub loop-stored-init : goal.loop-stored-init
loop-stored-init g c = leaves_all (g.O.Sink.told c.args.out.now) (flat_map record_bytes c.args.kept.now)

pub returns-in_err-write_record : goal.returns-in_err-write_record
returns-in_err-write_record g c =
    record_cut c.args.kept.now c.loop-stored.stored-index c.stored-item.result c.loop-stored-test.true c.stored-item.is c.loop-stored.invariant c.from_residual.ensures.0 c.in_err-write_record.ensures

pub loop-stored-preserved : goal.loop-stored-preserved
loop-stored-preserved g c =
    record_written c.args.kept.now c.loop-stored.stored-index c.stored-item.result c.loop-stored-test.true c.stored-item.is c.loop-stored.invariant c.in_ok-write_record.ensures

pub returns : goal.returns
returns g c = records_written c.args.kept.now c.loop-stored.stored-index c.loop-stored-test.false c.loop-stored.invariant
