use Rattle.sync_graph.proofs.Nearest.{last_reading, without_last}
use Rattle.sync_graph.proofs.numbers.Numbers.last.Goals as goal

pub returns-clause-some : goal.returns-clause-some
returns-clause-some c = rw (← c.self.view_is) (last_reading c.self.inside.nodes.items c.self.inside.index c.args.clock c.self.invariant c.last_on.result (rw (← c.place_of.ensures) c.last_on.ensures))

pub returns-clause-none : goal.returns-clause-none
returns-clause-none c = rw (← c.self.view_is) (without_last c.self.inside.nodes.items c.self.inside.index c.args.clock c.self.invariant c.last_on.result (rw (← c.place_of.ensures) c.last_on.ensures))
