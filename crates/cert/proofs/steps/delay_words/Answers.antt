use Rattle.std.proofs.Common.{sym}
use Rattle.cert.proofs.Forms.{some_through, none_through}
use Rattle.cert.proofs.StepForms.{delay_not_three, delay_not_parts, delay_says}
use Rattle.cert.proofs.steps.delay_words.Goals as goal

pub returns-in-Some-clause-some : goal.returns-in-Some-clause-some
returns-in-Some-clause-some c = some_through _ (λ w parts. delay_says _ _ _ _ w (sym c.in-Some.ensures) parts) c.delay_of.ensures.some

pub returns-in-Some-clause-none : goal.returns-in-Some-clause-none
returns-in-Some-clause-none c = none_through _ (delay_not_parts _ _ _ _ (sym c.in-Some.ensures)) c.delay_of.ensures.none

pub returns-in-None-clause-none : goal.returns-in-None-clause-none
returns-in-None-clause-none c = delay_not_three _ (sym c.in-None.ensures)
