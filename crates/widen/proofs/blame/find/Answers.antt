use Rattle.std.proofs.Common.{sym, subst}
use Rattle.std.specs.Prelude.{All}
use Rattle.widen.specs.Search.{IsCycleOf}
use Rattle.widen.proofs.blame.find.Goals as goal

pub least_healing-requires-clause-cycles : goal.least_healing-requires-clause-cycles
least_healing-requires-clause-cycles g c = subst (All (IsCycleOf c.args.p.now)) (sym c.deref.ensures.value) c.requires.cycles

pub returns-clause-cycles : goal.returns-clause-cycles
returns-clause-cycles g c = c.in_ok-share.ensures c.args.p.now c.in_ok-found.ensures.cycle c.requires.cycles
