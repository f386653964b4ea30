use Rattle.cert_check.proofs.Widening.{event_at}
use Rattle.cert_check.proofs.declared.event_in.Goals as goal

pub returns-clause-event : goal.returns-clause-event
returns-clause-event c = rw c.widened_event.ensures (event_at c.args.what c.args.extra c.args.p.now.events c.args.place _ c.event_at.ensures.event)
