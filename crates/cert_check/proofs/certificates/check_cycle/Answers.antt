use Rattle.cert.specs.declared.certificate.Cert.TheVariants as certs
use Rattle.cert_check.specs.Widened.{widened}
use Rattle.cert_check.proofs.Answering.{yes_of, cycle_answer}
use Rattle.cert_check.proofs.Widening.{formed, steps_on}
use Rattle.cert_check.proofs.certificates.check_cycle.Goals as goal

pub returns-clause-answer : goal.returns-clause-answer
returns-clause-answer c =
    let p = c.args.p.now in
    let w = c.args.what in
    let e = c.args.extra in
    rw c.answer.ensures (cycle_answer (widened w p e) (formed w p e c.events.ensures.lawful.formed) c.args.c.now c.cycle_fault.result c.cycle_fault.ensures.found)

pub returns-clause-exact : goal.returns-clause-exact
returns-clause-exact c = λ shown.
    let p = c.args.p.now in
    let w = c.args.what in
    let e = c.args.extra in
    yes_of (widened w p e) (formed w p e c.events.ensures.lawful.formed) (certs.Cycle c.args.c.now) c.answer.result (steps_on w p e c.args.c.now c.requires) (returns-clause-answer c) shown
