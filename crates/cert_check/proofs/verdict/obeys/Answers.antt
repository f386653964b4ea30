use Rattle.std.proofs.Common.{◌≡◌, ◌∙◌, ap, subst}
use Rattle.problem_model.specs.Problem.{ProblemLists}
use Rattle.cert_check.specs.Verdict.{IsVerdict}
use Rattle.cert_check.specs.declared.what.Links.TheVariants as links
use Rattle.cert_check.specs.declared.what.What.TheVariants.{Delays}
use Rattle.cert_check.specs.Widened.{widened}
use Rattle.cert_check.proofs.Widening.{not_widened}
use Rattle.cert_check.proofs.verdict.obeys.Goals as goal

pub returns-clause-verdict : goal.returns-clause-verdict
returns-clause-verdict c = λ x lists.
    let p = c.args.p.now in
    let same : widened (Delays links.All) p c.no_extra.result ≡ p = ap (widened (Delays links.All) p) c.no_extra.ensures ∙ not_widened p in
    subst (λ (q : ProblemLists). IsVerdict q x c.obeys_widened.result) same (c.obeys_widened.ensures.verdict x lists)
