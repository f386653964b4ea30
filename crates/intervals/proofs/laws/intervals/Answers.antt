use Rattle.intervals.proofs.Times.{ends_are, are_interval, one_greatest, one_least, none_above, none_below}
use Rattle.intervals.proofs.laws.intervals.Goals as goal

pub returns-clause-ends : goal.returns-clause-ends
returns-clause-ends c = ends_are

pub returns-clause-interval : goal.returns-clause-interval
returns-clause-interval c = are_interval

pub returns-clause-one_greatest : goal.returns-clause-one_greatest
returns-clause-one_greatest c = one_greatest

pub returns-clause-one_least : goal.returns-clause-one_least
returns-clause-one_least c = one_least

pub returns-clause-unbounded_above : goal.returns-clause-unbounded_above
returns-clause-unbounded_above c = none_above

pub returns-clause-unbounded_below : goal.returns-clause-unbounded_below
returns-clause-unbounded_below c = none_below
