use Rattle.widen.proofs.FoundTexts.{widening_of, shows}
use Rattle.widen.proofs.found.widening_in_rounds.Goals as goal

pub returns-clause-widening : goal.returns-clause-widening
returns-clause-widening g c = widening_of c.args.what c.args.p.now c.in_ok-found.found.widening c.in_ok-found.ensures.finds

pub returns-clause-shows : goal.returns-clause-shows
returns-clause-shows g c = shows c.args.what c.args.p.now c.in_ok-found.found.widening c.in_ok-found.ensures.finds
