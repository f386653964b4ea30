use Rattle.std.proofs.Common.{Some, None}
use Rattle.sync_graph.proofs.Keyed.{number_some, number_none}
use Rattle.sync_graph.proofs.numbers.Numbers.by_key.Goals as goal

pub returns-in-Some-clause-some : goal.returns-in-Some-clause-some
returns-in-Some-clause-some c = rw (← c.self.view_is) (number_some c.self.inside.nodes.items c.self.inside.index c.args.node.now (Some c.in-Some.number.now) c.self.invariant (rw (← c.key_of.ensures) c.in-Some.ensures.value))

pub returns-in-None-clause-none : goal.returns-in-None-clause-none
returns-in-None-clause-none c = rw (← c.self.view_is) (number_none c.self.inside.nodes.items c.self.inside.index c.args.node.now None c.self.invariant (rw (← c.key_of.ensures) c.in-None.ensures.value))
