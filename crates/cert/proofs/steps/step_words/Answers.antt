use Rattle.std.proofs.Common.{◌≡◌, codes, rules, sym}
use Rattle.cert.proofs.Forms.{some_through, none_through}
use Rattle.cert.proofs.StepForms.{step_not_three, step_other, step_not_kind, step_says}
use Rattle.cert.proofs.steps.step_words.Goals as goal

pub returns-then-ne-clause-none : goal.returns-then-ne-clause-none
returns-then-ne-clause-none c =
    let other : c.in-Some.word.now ≡ codes "step" → ⊥ = search rules in
    step_other _ _ _ _ (sym c.in-Some.ensures) other

pub returns-else-ne-clause-some : goal.returns-else-ne-clause-some
returns-else-ne-clause-some c =
    let is : c.in-Some.word.now ≡ codes "step" = search rules in
    some_through _ (λ w says. step_says _ _ _ _ w (sym c.in-Some.ensures) is says) c.step_of.ensures.some

pub returns-else-ne-clause-none : goal.returns-else-ne-clause-none
returns-else-ne-clause-none c = none_through _ (step_not_kind _ _ _ _ (sym c.in-Some.ensures)) c.step_of.ensures.none

pub returns-in-None-clause-none : goal.returns-in-None-clause-none
returns-in-None-clause-none c = step_not_three _ (sym c.in-None.ensures)
