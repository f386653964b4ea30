use Rattle.std.proofs.Common.{refl}
use Rattle.roster.specs.Roster.{event_at}
use Rattle.roster.proofs.Telling.{holds_still, holds_restamped}
use Rattle.roster.proofs.laws.telling_keeps_events.Goals as goal

pub returns-clause-nodes : goal.returns-clause-nodes
returns-clause-nodes c = λ r seen v node holds. holds_still r seen v (record (event_at r.came v) { node = node }) refl holds

pub returns-clause-partners : goal.returns-clause-partners
returns-clause-partners c = λ r seen v partner holds. holds_still r seen v (record (event_at r.came v) { partner = partner }) refl holds

pub returns-clause-readings : goal.returns-clause-readings
returns-clause-readings c = holds_restamped
