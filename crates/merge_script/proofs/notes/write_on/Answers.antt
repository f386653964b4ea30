use Rattle.ports.proofs.Writing.{writes_none}
use Rattle.merge_script.proofs.notes.write_on.Goals as goal

pub returns-in-Log : goal.returns-in-Log
returns-in-Log g c = rw c.in-Log.is (writes_none (g.N.Sink.told c.args.notes.now))
