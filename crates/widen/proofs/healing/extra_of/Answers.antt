use Rattle.std.proofs.Common.{subst}
use Rattle.widen.specs.Found.{FindsWidening}
use Rattle.widen.proofs.FoundTexts.{least_found, never_found}
use Rattle.widen.proofs.healing.extra_of.Goals as goal

pub returns-in-Least : goal.returns-in-Least
returns-in-Least c = λ what p finds. least_found what p c.in-Least.extra _ _ (subst (FindsWidening what p) c.in-Least.is finds)

pub returns-in-Never : goal.returns-in-Never
returns-in-Never c = λ what p finds. never_found what p _ (subst (FindsWidening what p) c.in-Never.is finds)
