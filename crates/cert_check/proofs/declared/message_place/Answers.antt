use Rattle.cert_check.proofs.Messages.{has_place}
use Rattle.cert_check.proofs.declared.message_place.Goals as goal

pub returns-in-None : goal.returns-in-None
returns-in-None c = let at = has_place c.args.p.now c.args.send c.args.receive c.requires in absurd (c.in-None.ensures.none at.0 at.1)
