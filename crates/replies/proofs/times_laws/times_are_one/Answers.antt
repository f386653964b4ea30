use Rattle.replies.proofs.OneTimes.{one_by_clock, one_since}
use Rattle.replies.proofs.times_laws.times_are_one.Goals as goal

pub returns-clause-by_clock : goal.returns-clause-by_clock
returns-clause-by_clock c = one_by_clock

pub returns-clause-since : goal.returns-clause-since
returns-clause-since c = one_since
