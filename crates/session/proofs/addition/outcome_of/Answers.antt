use Rattle.std.proofs.Common.{refl}
use Rattle.session.proofs.addition.outcome_of.Goals as goal

pub returns-clause-line : goal.returns-clause-line
returns-clause-line c = λ p consistent. (c.args.consistent, consistent, refl)
