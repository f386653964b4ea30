use Rattle.cert_check.proofs.Showing.{run_is, upper_is, lower_is}
use Rattle.problem_model.proofs.Solutions.{no_execution}
use Rattle.cert.specs.Shows.{weighed_bounds}
use Rattle.cert_check.proofs.laws.soundness.Goals as goal

pub returns-clause-cycle : goal.returns-clause-cycle
returns-clause-cycle c = λ p steps x shows execution. no_execution p (weighed_bounds steps) x shows execution

pub returns-clause-run : goal.returns-clause-run
returns-clause-run c = λ p values x lawful shows lists. run_is p values x lawful shows lists

pub returns-clause-upper : goal.returns-clause-upper
returns-clause-upper c = λ p a b upper lower shows. upper_is p a b upper shows.0

pub returns-clause-lower : goal.returns-clause-lower
returns-clause-lower c = λ p a b upper lower shows. lower_is p a b lower shows.1
