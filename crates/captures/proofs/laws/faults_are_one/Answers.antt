use Rattle.captures.proofs.Formats.{one_fault}
use Rattle.captures.proofs.laws.faults_are_one.Goals as goal

pub returns : goal.returns
returns c = one_fault
