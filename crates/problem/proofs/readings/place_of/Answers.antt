use Rattle.problem.proofs.Searching.{not_missed}
use Rattle.problem.proofs.readings.place_of.Goals as goal

pub returns-in-Err-clause-none : goal.returns-in-Err-clause-none
returns-in-Err-clause-none c there = not_missed c.args.readings.now (c.args.clock, c.args.stamp) c.in-Err.field-0 c.requires.rising there c.in-Err.ensures.position
