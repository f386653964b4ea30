use Rattle.std.proofs.Common.{◌<◌, arith, sym, subst}
use Rattle.cert.specs.CertificateFormat.{IsDeclared}
use Rattle.cert.proofs.Declaring.{span_declared, read_at}
use Rattle.cert.proofs.bounds.span_between.Goals as goal

pub returns-clause-some : goal.returns-clause-some
returns-clause-some c =
    let p = c.args.p.now in
    let below : c.args.s < c.args.t = omega (arith, c.if-get.false, c.get.ensures.value, c.get-2.ensures.value) in
    let readings = c.readings.result.now in
    let low = read_at p readings c.args.clock _ c.args.s c.readings.ensures (c.in_ok-_low.ensures.some readings c.readings.ensures) in
    let high = read_at p readings c.args.clock _ c.args.t c.readings.ensures (c.in_ok-_high.ensures.some readings c.readings.ensures) in
    (c.span_named.ensures, subst (IsDeclared p) (sym c.span_named.ensures) (span_declared p c.args.extreme c.args.clock c.args.s c.args.t c.requires low high below))
