use Rattle.roster.proofs.Rosters.{more_events}
use Rattle.roster.proofs.growth.a_push_brings_events.Goals as goal

pub returns : goal.returns
returns c = more_events
