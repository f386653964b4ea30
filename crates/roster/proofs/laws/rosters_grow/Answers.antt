use Rattle.roster.proofs.Holding.{holds_none, holds_more}
use Rattle.roster.proofs.laws.rosters_grow.Goals as goal

pub returns-clause-none : goal.returns-clause-none
returns-clause-none c = holds_none

pub returns-clause-grown : goal.returns-clause-grown
returns-clause-grown c = holds_more
