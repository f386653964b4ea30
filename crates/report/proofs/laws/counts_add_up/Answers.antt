use Rattle.report.proofs.Adding.{added_up}
use Rattle.report.proofs.laws.counts_add_up.Goals as goal

pub returns : goal.returns
returns c = added_up
