use Rattle.thinning.proofs.NamedEvents.{no_name}
use Rattle.thinning.proofs.named.event_named.Goals as goal

pub returns-in-None-clause-none : goal.returns-in-None-clause-none
returns-in-None-clause-none c = no_name _ _ c.events.ensures.lawful c.in-None.ensures
