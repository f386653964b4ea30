use Rattle.std.proofs.Common.{length, ap, arith}
use Rattle.problem_model.specs.Nodes.{nodes_of}
use Rattle.problem.specs.Listing.{all_readings}
use Rattle.problem.proofs.AllReadings.{readings_are}
use Rattle.cert.proofs.Places.{length-nodes_of}
use Rattle.cert.proofs.CertTaking.{none_fit}
use Rattle.widen.proofs.read.read_times.Goals as goal

pub nodes-init : goal.nodes-init
nodes-init c = rw c.requires ((λ what extra text b. b), let p = c.args.p.now in none_fit p (all_readings p.events) (length (nodes_of p (all_readings p.events))))

pub next_time-requires-clause-more : goal.next_time-requires-clause-more
next_time-requires-clause-more c = λ whole.
    let p = c.args.p.now in
    let events = ap length c.events.ensures.value in
    let readings = ap length (readings_are p c.readings.result.now c.readings.ensures) in
    omega (arith, whole, c.nodes-test.true, c.len.ensures.count, events, readings, length-nodes_of p (all_readings p.events))

pub nodes-preserved : goal.nodes-preserved
nodes-preserved c = ((λ what extra text b. c.in-Ok.ensures.read what extra text (c.nodes.invariant.0 what extra text b)), c.in-Ok.ensures.values)

pub returns-in-Err : goal.returns-in-Err
returns-in-Err c = λ what extra text b. c.in-Err.ensures.read what extra text (c.nodes.invariant.0 what extra text b)

pub returns : goal.returns
returns c = λ what extra text b.
    let p = c.args.p.now in
    let events = ap length c.events.ensures.value in
    let readings = ap length (readings_are p c.readings.result.now c.readings.ensures) in
    (c.nodes.invariant.0 what extra text b, omega (arith, c.nodes-test.false, c.len.ensures.count, c.nodes.invariant.1.few, events, readings, length-nodes_of p (all_readings p.events)))
