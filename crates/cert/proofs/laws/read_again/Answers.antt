use Rattle.cert.proofs.ReadAgain.{certificate_again, ends_again, cycle_said, run_said, shown_again, same_shows}
use Rattle.cert.proofs.laws.read_again.Goals as goal

pub returns-clause-certificate : goal.returns-clause-certificate
returns-clause-certificate c = certificate_again

pub returns-clause-ends : goal.returns-clause-ends
returns-clause-ends c = ends_again

pub returns-clause-cycle : goal.returns-clause-cycle
returns-clause-cycle c = cycle_said

pub returns-clause-run : goal.returns-clause-run
returns-clause-run c = run_said

pub returns-clause-same_shows : goal.returns-clause-same_shows
returns-clause-same_shows c = same_shows

pub returns-clause-shown : goal.returns-clause-shown
returns-clause-shown c = shown_again
