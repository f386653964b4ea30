use Rattle.cert.specs.CertificateFormat.{IsDeclared, delay_bound}
use Rattle.cert.specs.CertificateFormat.NamedBound.{Delay}
use Rattle.cert.specs.SaidStep.{FindsNoNamed}
use Rattle.cert.proofs.Declaring.{delay_not}
use Rattle.cert.proofs.Forms.{none_through}
use Rattle.cert.proofs.bounds.delay_of.Goals as goal

pub returns-clause-none : goal.returns-clause-none
returns-clause-none c =
    let p = c.args.p.now in
    let whole : (IsDeclared p (delay_bound c.args.extreme c.in_ok-send.send c.in_ok-receive.receive) → ⊥) → FindsNoNamed p (Delay c.args.extreme c.args.send.now c.args.receive.now) = λ none b named declared.
    delay_not p c.events.ensures.lawful c.args.extreme c.args.send.now c.args.receive.now c.in_ok-send.send c.in_ok-receive.receive b c.in_ok-send.ensures.some c.in_ok-receive.ensures.some none named declared in
    none_through _ whole c.delay_between.ensures.none
