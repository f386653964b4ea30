use Rattle.std.proofs.Common.{◌≡◌, codes, rules}
use Rattle.problem.specs.Listing.{all_readings}
use Rattle.cert.proofs.CertTaking.{run_taken, events_taken, events_refused}
use Rattle.cert.proofs.read_certificate.kind_line.Goals as goal

pub returns-then-eq-2 : goal.returns-then-eq-2
returns-then-eq-2 c =
    let p = c.args.p.now in
    let is : c.args.body.now ≡ codes "run" = search rules in
    run_taken p (all_readings p.events) c.new-then-eq-2.result c.args.body.now c.new-then-eq-2.ensures is

pub returns-in-Some-event_places : goal.returns-in-Some-event_places
returns-in-Some-event_places c =
    let p = c.args.p.now in
    let at = c.in-Some-event_places.ensures.some in
    events_taken p (all_readings p.events) _ _ c.in-Some.words c.args.body.now c.in-Some.ensures.some at.0 at.1

pub returns-in-None : goal.returns-in-None
returns-in-None c =
    let p = c.args.p.now in
    events_refused p (all_readings p.events) c.in-Some.words c.args.body.now c.in-Some.ensures.some (λ j k. c.in-None.ensures.none j k)
