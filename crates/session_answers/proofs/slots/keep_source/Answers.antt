use Rattle.std.proofs.Common.{inr, refl}
use Rattle.session_answers.proofs.slots.keep_source.Goals as goal

pub returns-in-None-clause-source : goal.returns-in-None-clause-source
returns-in-None-clause-source g c = λ p is. rw c.in-None.is (refl, c.requires.none)

pub returns-in-None-clause-takes : goal.returns-in-None-clause-takes
returns-in-None-clause-takes g c = inr refl
