use Rattle.ports.proofs.Writing.{writes_none}
use Rattle.widen.proofs.write.write_below.Goals as goal

pub write_cycle-requires : goal.write_cycle-requires
write_cycle-requires g c = (rw c.in-Some.is at c.requires).1

pub returns-in-Some : goal.returns-in-Some
returns-in-Some g c = rw c.in-Some.is c.write_cycle.ensures

pub returns-in-None : goal.returns-in-None
returns-in-None g c = rw c.in-None.is (writes_none (g.O.Sink.told c.args.out.now))
