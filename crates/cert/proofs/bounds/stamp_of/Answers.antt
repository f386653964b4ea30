use Rattle.cert.proofs.Declaring.{stamp_found}
use Rattle.cert.proofs.bounds.stamp_of.Goals as goal

pub returns-clause-some : goal.returns-clause-some
returns-clause-some c = stamp_found c.args.p.now c.events.ensures.lawful c.args.kind c.args.event.now c.in_ok-event.event _ c.in_ok-event.ensures.some c.stamp_named.ensures
