use Rattle.std.proofs.Common.{length, ap, arith}
use Rattle.cert_check.proofs.Times.{length-nodes_of}
use Rattle.cert_tests.proofs.parts.execution.Goals as goal

pub returns-then-from-nodes : goal.returns-then-from-nodes
returns-then-from-nodes c =
    let readings = c.readings.result.now in
    let count = length-nodes_of c.args.p.now readings in
    let events = ap length c.events.ensures.value in
    (readings, c.readings.ensures, omega (arith, count, events, c.if-from-nodes.true, c.from.ensures, c.len.ensures.count))
