use Rattle.attain.proofs.Accepted.{ends_fit, ends_accepted}
use Rattle.attain.proofs.EndLengths.{text_short}
use Rattle.attain.proofs.SolvedTexts.{cycle_accepted, cycle_short, cycle_small, run_accepted, run_short, values_small}
use Rattle.attain.proofs.laws.accepted.Goals as goal

pub returns-clause-fits : goal.returns-clause-fits
returns-clause-fits c = λ p readings first second upper lower tight lawful are. ends_fit p readings lawful are first second upper lower tight

pub returns-clause-ends : goal.returns-clause-ends
returns-clause-ends c = ends_accepted

pub returns-clause-ends_short : goal.returns-clause-ends_short
returns-clause-ends_short c = text_short

pub returns-clause-cycle : goal.returns-clause-cycle
returns-clause-cycle c = λ p readings steps contradiction short lawful are. cycle_accepted p readings lawful are steps contradiction short

pub returns-clause-run : goal.returns-clause-run
returns-clause-run c = λ p readings x e lawful are. run_accepted p readings lawful are x e

pub returns-clause-cycle_short : goal.returns-clause-cycle_short
returns-clause-cycle_short c = λ p readings steps contradiction short lawful are. cycle_short p readings lawful are steps contradiction short

pub returns-clause-run_short : goal.returns-clause-run_short
returns-clause-run_short c = λ p readings x e lawful are. run_short p readings lawful are x e

pub returns-clause-cycle_small : goal.returns-clause-cycle_small
returns-clause-cycle_small c = λ p steps contradiction lawful. cycle_small p lawful steps contradiction

pub returns-clause-run_small : goal.returns-clause-run_small
returns-clause-run_small c = λ p readings x e lawful are. values_small p readings lawful are x e
