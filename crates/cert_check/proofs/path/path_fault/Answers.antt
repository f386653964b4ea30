use Rattle.std.proofs.Common.{◌≡◌, ◌∙◌, ap, subst}
use Rattle.problem_model.specs.declared.items.Node.TheVariants as nodes
use Rattle.problem_model.specs.Problem.{ProblemLists}
use Rattle.cert_check.specs.Walks.{IsWalk}
use Rattle.cert_check.specs.declared.what.Links.TheVariants as links
use Rattle.cert_check.specs.declared.what.What.TheVariants.{Delays}
use Rattle.cert_check.specs.Widened.{widened}
use Rattle.cert_check.proofs.Paths.{astray_first, weight_first}
use Rattle.cert_check.proofs.Widening.{not_widened}
use Rattle.cert_check.proofs.path.path_fault.Goals as goal

pub returns-in-Astray-clause-found : goal.returns-in-Astray-clause-found
returns-in-Astray-clause-found c =
    let p = c.args.p.now in
    let same : widened (Delays links.All) p c.no_extra.result ≡ p = ap (widened (Delays links.All) p) c.no_extra.ensures ∙ not_widened p in
    let walk = subst (λ (q : ProblemLists). IsWalk q c.args.part (nodes.Event c.args.second) c.args.path.now c.walk_over.result) same c.walk_over.ensures.walk in
    let walked = rw c.in-Astray.is at walk in
    astray_first p c.events.ensures.lawful.formed c.args.part c.requires.part c.args.first c.args.second c.args.value c.args.path.now c.requires.steps
    c.in-Astray.step walked.0 walked.1 walked.2 walked.3 walked.4 walked.5 walked.6 walked.7 walked.8

pub returns-in-Misweighed-clause-found : goal.returns-in-Misweighed-clause-found
returns-in-Misweighed-clause-found c =
    let p = c.args.p.now in
    let same : widened (Delays links.All) p c.no_extra.result ≡ p = ap (widened (Delays links.All) p) c.no_extra.ensures ∙ not_widened p in
    let walk = subst (λ (q : ProblemLists). IsWalk q c.args.part (nodes.Event c.args.second) c.args.path.now c.walk_over.result) same c.walk_over.ensures.walk in
    let walked = rw c.in-Misweighed.is at walk in
    weight_first p c.events.ensures.lawful.formed c.args.part c.requires.part c.args.first c.args.second c.args.value c.args.path.now c.requires.steps
    c.in-Misweighed.step walked.0 walked.1 walked.2 walked.3 walked.4 walked.5 walked.6 walked.7 walked.8 walked.9

pub returns-in-Arrived-clause-found : goal.returns-in-Arrived-clause-found
returns-in-Arrived-clause-found c =
    let p = c.args.p.now in
    let same : widened (Delays links.All) p c.no_extra.result ≡ p = ap (widened (Delays links.All) p) c.no_extra.ensures ∙ not_widened p in
    let walk = subst (λ (q : ProblemLists). IsWalk q c.args.part (nodes.Event c.args.second) c.args.path.now c.walk_over.result) same c.walk_over.ensures.walk in
    c.arrival_fault.ensures.found p c.args.second c.args.path.now c.events.ensures.lawful.formed c.requires.part c.requires.steps c.len.ensures.count (rw c.in-Arrived.is at walk)
