use Rattle.std.proofs.Common.{sym}
use Rattle.cert.proofs.Forms.{some_through, none_through}
use Rattle.cert.proofs.StepForms.{stamp_not_two, stamp_not_parts, stamp_says}
use Rattle.cert.proofs.steps.stamp_words.Goals as goal

pub returns-in-Some-clause-some : goal.returns-in-Some-clause-some
returns-in-Some-clause-some c = some_through _ (λ w parts. stamp_says _ _ _ w (sym c.in-Some.ensures) parts) c.stamp_of.ensures.some

pub returns-in-Some-clause-none : goal.returns-in-Some-clause-none
returns-in-Some-clause-none c = none_through _ (stamp_not_parts _ _ _ (sym c.in-Some.ensures)) c.stamp_of.ensures.none

pub returns-in-None-clause-none : goal.returns-in-None-clause-none
returns-in-None-clause-none c = stamp_not_two _ (sym c.in-None.ensures)
