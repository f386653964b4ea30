use Rattle.std.proofs.Common.{◌∷◌, sym, subst}
use Rattle.std.specs.Prelude.{All}
use Rattle.widen.specs.Search.{IsCycleOf}
use Rattle.widen.specs.Blame.{IsBlamedUpTo}
use Rattle.widen.proofs.blame.add_found.Goals as goal

pub returns-clause-lines : goal.returns-clause-lines
returns-clause-lines g c = λ rest so_far. c.in_ok-add_line.ensures.lines rest (subst (IsBlamedUpTo c.args.p.now (c.args.what ∷ rest)) (sym c.find.ensures.text) so_far)

pub returns-clause-cycles : goal.returns-clause-cycles
returns-clause-cycles g c = subst (All (IsCycleOf c.args.p.now)) (sym c.add_line.ensures.cycles) c.in_ok-extra.ensures.cycles
