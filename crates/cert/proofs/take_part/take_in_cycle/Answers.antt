use Rattle.problem.specs.Listing.{all_readings}
use Rattle.cert.proofs.CertTaking.{step_in_cycle, step_fault_in_cycle}
use Rattle.cert.proofs.PartTaking.{steps_more}
use Rattle.cert.proofs.take_part.take_in_cycle.Goals as goal

pub returns-in-Ok-clause-takes : goal.returns-in-Ok-clause-takes
returns-in-Ok-clause-takes c =
    let p = c.args.p.now in
    let says = c.in-Some.ensures.some in
    step_in_cycle p (all_readings p.events) c.args.steps.now c.push_step.new.steps says.n says.z c.args.body.now says.is (c.in-Ok.ensures says.n says.z says.held)

pub returns-in-Ok-clause-sound : goal.returns-in-Ok-clause-sound
returns-in-Ok-clause-sound c = λ are.
    let says = c.in-Some.ensures.some in
    steps_more c.args.p.now c.args.steps.now c.push_step.new.steps says.n says.z (c.in-Ok.ensures says.n says.z says.held) are

pub returns-in-Err-clause-takes : goal.returns-in-Err-clause-takes
returns-in-Err-clause-takes c =
    let p = c.args.p.now in
    let says = c.in-Some.ensures.some in
    step_fault_in_cycle p (all_readings p.events) c.args.steps.now c.push_step.new.steps says.n says.z c.args.body.now c.in-Err.fault says.spelled says.is (c.in-Err.ensures says.n says.z says.held)
