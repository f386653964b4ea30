use Rattle.std.proofs.Common.{sym}
use Rattle.cert.proofs.Forms.{some_through, none_through}
use Rattle.cert.proofs.StepForms.{span_not_four, span_not_parts, span_says}
use Rattle.cert.proofs.steps.span_words.Goals as goal

pub returns-in-Some-clause-some : goal.returns-in-Some-clause-some
returns-in-Some-clause-some c = some_through _ (λ w parts. span_says _ _ _ _ _ w (sym c.in-Some.ensures) parts) c.span_of.ensures.some

pub returns-in-Some-clause-none : goal.returns-in-Some-clause-none
returns-in-Some-clause-none c = none_through _ (span_not_parts _ _ _ _ _ (sym c.in-Some.ensures)) c.span_of.ensures.none

pub returns-in-None-clause-none : goal.returns-in-None-clause-none
returns-in-None-clause-none c = span_not_four _ (sym c.in-None.ensures)
