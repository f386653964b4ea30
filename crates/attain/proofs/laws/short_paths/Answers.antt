use Rattle.attain.proofs.PathSums.{onward_under, back_under}
use Rattle.attain.proofs.laws.short_paths.Goals as goal

pub returns-clause-onward : goal.returns-clause-onward
returns-clause-onward c = onward_under

pub returns-clause-back : goal.returns-clause-back
returns-clause-back c = back_under
