use Rattle.std.proofs.Common.{sym}
use Rattle.cert.proofs.Forms.{some_through, none_through}
use Rattle.cert.proofs.StepForms.{follow_not_five, follow_not_parts, follow_says}
use Rattle.cert.proofs.steps.follow_words.Goals as goal

pub returns-in-Some-clause-some : goal.returns-in-Some-clause-some
returns-in-Some-clause-some c = some_through _ (λ w parts. follow_says _ _ _ _ _ _ w (sym c.in-Some.ensures) parts) c.follow_of.ensures.some

pub returns-in-Some-clause-none : goal.returns-in-Some-clause-none
returns-in-Some-clause-none c = none_through _ (follow_not_parts _ _ _ _ _ _ (sym c.in-Some.ensures)) c.follow_of.ensures.none

pub returns-in-None-clause-none : goal.returns-in-None-clause-none
returns-in-None-clause-none c = follow_not_five _ (sym c.in-None.ensures)
