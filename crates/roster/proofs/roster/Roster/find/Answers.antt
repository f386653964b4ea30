use Rattle.roster.proofs.EventNames.{finds_of}
use Rattle.roster.proofs.roster.Roster.find.Goals as goal

pub returns : goal.returns
returns c = rw (← c.self.view_is) (finds_of _ c.args.name.now c.find_event.result c.self.invariant c.find_event.ensures.some c.find_event.ensures.none)
