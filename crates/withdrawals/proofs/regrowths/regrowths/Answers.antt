use Rattle.withdrawals.specs.Regrowths.{are_equal_to}
use Rattle.withdrawals.proofs.Marks.{affected_marked_in}
use Rattle.withdrawals.proofs.Remnants.{remnant}
use Rattle.withdrawals.proofs.Regrown.{regrown_under_way, regrown_free, regrown_row}
use Rattle.withdrawals.proofs.Bounds.{changed_within, regrowth_cost}
use Rattle.withdrawals.proofs.regrowths.regrowths.Goals as goal

pub returns-clause-affected : goal.returns-clause-affected
returns-clause-affected c = λ nodes table was removed. affected_marked_in nodes table was (are_equal_to table removed)

pub returns-clause-remnant : goal.returns-clause-remnant
returns-clause-remnant c = λ nodes table was removed. remnant nodes table was (are_equal_to table removed)

pub returns-clause-under_way : goal.returns-clause-under_way
returns-clause-under_way c = regrown_under_way

pub returns-clause-free : goal.returns-clause-free
returns-clause-free c = regrown_free

pub returns-clause-settled : goal.returns-clause-settled
returns-clause-settled c = regrown_row

pub returns-clause-within : goal.returns-clause-within
returns-clause-within c = λ nodes table was removed. changed_within nodes table was (are_equal_to table removed)

pub returns-clause-cost : goal.returns-clause-cost
returns-clause-cost c = λ nodes table removed. regrowth_cost nodes table (are_equal_to table removed)
