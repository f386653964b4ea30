use Rattle.sync_graph.proofs.Nearest.{first_reading, without_first}
use Rattle.sync_graph.proofs.numbers.Numbers.first.Goals as goal

pub returns-clause-some : goal.returns-clause-some
returns-clause-some c = rw (← c.self.view_is) (first_reading c.self.inside.nodes.items c.self.inside.index c.args.clock c.self.invariant c.first_on.result (rw (← c.place_of.ensures) c.first_on.ensures))

pub returns-clause-none : goal.returns-clause-none
returns-clause-none c = rw (← c.self.view_is) (without_first c.self.inside.nodes.items c.self.inside.index c.args.clock c.self.invariant c.first_on.result (rw (← c.place_of.ensures) c.first_on.ensures))
