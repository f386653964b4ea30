use Rattle.attain.proofs.ListedProblems.{cycle_carried, run_listed}
use Rattle.attain.proofs.laws.listed_problems.Goals as goal

pub returns-clause-cycle : goal.returns-clause-cycle
returns-clause-cycle c = λ l p readings steps others is carried. cycle_carried l p readings is steps others carried

pub returns-clause-run : goal.returns-clause-run
returns-clause-run c = λ l p readings x is. run_listed l p readings is x
