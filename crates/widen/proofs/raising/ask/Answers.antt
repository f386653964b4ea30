use Rattle.std.proofs.Common.{sym, subst}
use Rattle.sync_graph.proofs.InForce.{no_arc}
use Rattle.widen.specs.Weighed.{IsNameOf}
use Rattle.widen.proofs.raising.ask.Goals as goal

pub weight_of-weight-requires-clause-name : goal.weight_of-weight-requires-clause-name
weight_of-weight-requires-clause-name c = subst (IsNameOf c.args.b.now.problem.now) (sym c.arc-arc.ensures) (c.requires.bounds c.args.k no_arc c.requires.arc)
