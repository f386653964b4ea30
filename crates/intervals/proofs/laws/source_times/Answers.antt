use Rattle.intervals.proofs.Times.{source_ends}
use Rattle.intervals.proofs.laws.source_times.Goals as goal

pub returns : goal.returns
returns c = source_ends
