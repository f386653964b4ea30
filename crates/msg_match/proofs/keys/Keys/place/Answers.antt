use Rattle.msg_match.proofs.KeyTests.{found, missed}
use Rattle.msg_match.proofs.keys.Keys.place.Goals as goal

pub returns-clause-some : goal.returns-clause-some
returns-clause-some c = rw (← c.self.view_is) (found c.args.key.now c.self.inside.places _ c.place.ensures.place)

pub returns-clause-none : goal.returns-clause-none
returns-clause-none c = rw (← c.self.view_is) (missed c.args.key.now c.self.inside.places _ c.place.ensures.place)
