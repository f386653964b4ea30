use Rattle.cert.proofs.OwnListing.{is_named, step_is, length-numbers, numbers_below, values_are, cycle_is, run_is}
use Rattle.cert.proofs.laws.listings.Goals as goal

pub returns-clause-named : goal.returns-clause-named
returns-clause-named c = is_named

pub returns-clause-steps : goal.returns-clause-steps
returns-clause-steps c = step_is

pub returns-clause-nodes : goal.returns-clause-nodes
returns-clause-nodes c = length-numbers

pub returns-clause-numbers : goal.returns-clause-numbers
returns-clause-numbers c = numbers_below

pub returns-clause-values : goal.returns-clause-values
returns-clause-values c = values_are

pub returns-clause-cycle : goal.returns-clause-cycle
returns-clause-cycle c = cycle_is

pub returns-clause-run : goal.returns-clause-run
returns-clause-run c = run_is
