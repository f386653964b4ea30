use Rattle.problem.proofs.Places.{pair_eq, exact_pairs, absent}
use Rattle.problem.proofs.names.Pairs.push.Goals as goal

pub push-requires : goal.push-requires
push-requires c = record { new = absent pair_eq exact_pairs (c.args.send, c.args.receive) c.self.inside.places (rw (← c.self.view_is) at c.requires) }
