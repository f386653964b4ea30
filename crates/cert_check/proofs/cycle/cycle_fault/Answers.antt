use Rattle.std.proofs.Common.{◌≡◌, ◌+◌, ◌-◌, arith}
use Rattle.cert_check.specs.Widened.{widened}
use Rattle.cert_check.proofs.Cycles.{loose_first, cycle_weight_first}
use Rattle.cert_check.proofs.Widening.{formed, steps_on}
use Rattle.cert_check.proofs.cycle.cycle_fault.Goals as goal

pub returns-in-Astray-clause-found : goal.returns-in-Astray-clause-found
returns-in-Astray-clause-found c =
    let p = c.args.p.now in
    let w = c.args.what in
    let e = c.args.extra in
    let walked = rw c.in-Astray.is at c.walk_over.ensures.walk in
    let start = c.start_of-start.ensures in
    let after : c.in-Astray.step ≡ walked.0 + 1 = walked.4 in
    loose_first (widened w p e) (formed w p e c.events.ensures.lawful.formed) c.args.chain.now (steps_on w p e c.args.chain.now c.requires) c.start_of-start.result c.in-Astray.step walked.0 walked.1 walked.2 walked.3 walked.4 walked.5 walked.6 walked.7
    start.0 start.1 (c.in-Astray.step - 1) start.2 start.3 start.4 walked.8 (omega (arith, after))

pub returns-in-Misweighed-clause-found : goal.returns-in-Misweighed-clause-found
returns-in-Misweighed-clause-found c =
    let p = c.args.p.now in
    let w = c.args.what in
    let e = c.args.extra in
    let walked = rw c.in-Misweighed.is at c.walk_over.ensures.walk in
    cycle_weight_first (widened w p e) (formed w p e c.events.ensures.lawful.formed) c.args.chain.now (steps_on w p e c.args.chain.now c.requires) c.start_of-start.result c.in-Misweighed.step walked.0 walked.1 walked.2 walked.3 walked.4 walked.5 walked.6 walked.7 walked.8 walked.9

pub returns-in-Arrived-clause-found : goal.returns-in-Arrived-clause-found
returns-in-Arrived-clause-found c =
    let p = c.args.p.now in
    let w = c.args.what in
    let e = c.args.extra in
    let walked = rw c.in-Arrived.is at c.walk_over.ensures.walk in
    let start = c.start_of-start.ensures in
    c.closing_fault.ensures.found (widened w p e) c.args.chain.now start.0 start.1 (formed w p e c.events.ensures.lawful.formed) (steps_on w p e c.args.chain.now c.requires) c.len.ensures.count start.2 start.3 start.4 walked
