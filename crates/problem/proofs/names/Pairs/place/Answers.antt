use Rattle.problem.proofs.Places.{pair_eq, exact_pairs, found, missed}
use Rattle.problem.proofs.names.Pairs.place.Goals as goal

pub returns-clause-some : goal.returns-clause-some
returns-clause-some c = rw (← c.self.view_is) (found pair_eq exact_pairs (c.args.send, c.args.receive) c.self.inside.places _ c.place.ensures.place)

pub returns-clause-none : goal.returns-clause-none
returns-clause-none c = rw (← c.self.view_is) (missed pair_eq exact_pairs (c.args.send, c.args.receive) c.self.inside.places _ c.place.ensures.place)
