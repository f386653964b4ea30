use Rattle.std.proofs.Common.{◌≡◌, ◌∙◌, sym, ap, subst}
use Rattle.problem_model.specs.Problem.{ProblemLists}
use Rattle.cert.specs.declared.certificate.Cert.{Cert}
use Rattle.cert.specs.declared.certificate.Cert.TheVariants as certs
use Rattle.cert_check.specs.declared.answer.Part.TheVariants.{Run}
use Rattle.cert_check.specs.Reasons.{IsAnswer}
use Rattle.cert_check.specs.declared.what.Links.TheVariants as links
use Rattle.cert_check.specs.declared.what.What.TheVariants.{Delays}
use Rattle.cert_check.specs.Widened.{widened}
use Rattle.cert_check.proofs.Answering.{yes_of, run_answer}
use Rattle.cert_check.proofs.Widening.{not_widened}
use Rattle.cert_check.proofs.certificates.check.Goals as goal

pub returns-in-Cycle-clause-answer : goal.returns-in-Cycle-clause-answer
returns-in-Cycle-clause-answer c =
    let p = c.args.p.now in
    let same : widened (Delays links.All) p c.no_extra.result ≡ p = ap (widened (Delays links.All) p) c.no_extra.ensures ∙ not_widened p in
    let answered = subst (λ (q : ProblemLists). IsAnswer q (certs.Cycle c.in-Cycle.chain) c.check_cycle.result) same c.check_cycle.ensures.answer in
    subst (λ (k : Cert). IsAnswer p k c.check_cycle.result) (sym c.in-Cycle.is) answered

pub returns-in-Cycle-clause-exact : goal.returns-in-Cycle-clause-exact
returns-in-Cycle-clause-exact c = λ shown. yes_of c.args.p.now c.events.ensures.lawful.formed c.args.c.now c.check_cycle.result c.requires (returns-in-Cycle-clause-answer c) shown

pub returns-in-Run-clause-answer : goal.returns-in-Run-clause-answer
returns-in-Run-clause-answer c =
    let p = c.args.p.now in
    subst (λ (k : Cert). IsAnswer p k c.answer.result) (sym c.in-Run.is) (rw c.answer.ensures (run_answer p c.events.ensures.lawful.formed c.in-Run.execution c.run_fault.result (c.run_fault.ensures.found Run)))

pub returns-in-Run-clause-exact : goal.returns-in-Run-clause-exact
returns-in-Run-clause-exact c = λ shown. yes_of c.args.p.now c.events.ensures.lawful.formed c.args.c.now c.answer.result c.requires (returns-in-Run-clause-answer c) shown

pub returns-in-Ends-clause-answer : goal.returns-in-Ends-clause-answer
returns-in-Ends-clause-answer c =
    let p = c.args.p.now in
    subst (λ (k : Cert). IsAnswer p k c.ends_answer.result) (sym c.in-Ends.is) c.ends_answer.ensures.answer

pub returns-in-Ends-clause-exact : goal.returns-in-Ends-clause-exact
returns-in-Ends-clause-exact c = λ shown. yes_of c.args.p.now c.events.ensures.lawful.formed c.args.c.now c.ends_answer.result c.requires (returns-in-Ends-clause-answer c) shown
