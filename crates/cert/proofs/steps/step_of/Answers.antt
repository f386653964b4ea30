use Rattle.std.proofs.Common.{◌≡◌, codes, rules}
use Rattle.cert.proofs.StepForms.{span_kind_says, follow_kind_says}
use Rattle.cert.proofs.steps.step_of.Goals as goal

pub returns-in-Some-span_words-clause-some : goal.returns-in-Some-span_words-clause-some
returns-in-Some-span_words-clause-some c = span_kind_says _ _ _ _ c.in-Some.ensures.some c.in-Some-span_words.ensures.some

pub returns-in-Some-follow_words-clause-some : goal.returns-in-Some-follow_words-clause-some
returns-in-Some-follow_words-clause-some c =
    let is : c.args.kind.now ≡ codes "follow" = search rules in
    follow_kind_says _ _ _ is c.in-Some-follow_words.ensures.some
