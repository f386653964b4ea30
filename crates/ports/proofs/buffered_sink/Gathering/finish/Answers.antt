use Rattle.ports.proofs.Writing.{writes_as}
use Rattle.ports.proofs.Holding.{finishes}
use Rattle.ports.proofs.buffered_sink.Gathering.finish.Goals as goal

pub returns : goal.returns
returns g c = rw (← c.self.view_is) (finishes (writes_as c.deref.ensures.value c.write_whole-passed.ensures))
