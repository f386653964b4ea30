use Rattle.ports.proofs.Writing.{writes_as}
use Rattle.queries.proofs.KeptTimes.{time_shows}
use Rattle.queries.proofs.time.write_line.Goals as goal

pub returns : goal.returns
returns g c = λ p clock event keeps reads is. (
  c.time_line-line.result.items,
  time_shows p clock c.args.stamp event keeps reads c.args.pair is c.source_time-ends.result c.source_time-ends.ensures c.time_line-line.result.items c.time_line-line.ensures,
  writes_as c.as_slice.ensures.value c.write_whole.ensures,
)
