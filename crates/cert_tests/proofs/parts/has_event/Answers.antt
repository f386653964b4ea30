use Rattle.std.proofs.Common.{◌<◌, length, ap, arith}
use Rattle.cert_check.proofs.Named.{late_named, early_named}
use Rattle.cert_tests.proofs.parts.has_event.Goals as goal

pub returns-clause-late : goal.returns-clause-late
returns-clause-late c = λ yes.
    let long = ap length c.events.ensures.value in
    let inside : c.args.event < length c.args.p.now.events = omega (arith, long, c.if-event-events.false) in
    late_named c.args.p.now c.events.ensures.lawful.formed c.args.event inside

pub returns-clause-early : goal.returns-clause-early
returns-clause-early c = λ yes.
    let long = ap length c.events.ensures.value in
    let inside : c.args.event < length c.args.p.now.events = omega (arith, long, c.if-event-events.false) in
    early_named c.args.p.now c.events.ensures.lawful.formed c.args.event inside
