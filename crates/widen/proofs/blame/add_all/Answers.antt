use Rattle.std.proofs.Common.{sym, subst}
use Rattle.widen.specs.Blame.{other_kinds, candidates, IsBlamedUpTo, Blames}
use Rattle.widen.proofs.Blaming.{from_first, to_last}
use Rattle.widen.proofs.blame.add_all.Goals as goal

pub returns : goal.returns
returns g c =
    let p = c.args.p.now in
    let first = subst (IsBlamedUpTo p (candidates p)) (sym c.requires.empty) (from_first p) in
    let found = subst (IsBlamedUpTo p (other_kinds p)) (sym c.find.ensures.text) (c.in_ok-add_line.ensures.lines (other_kinds p) first) in
    subst (Blames p (candidates p)) (sym c.in_ok-extend_from_slice.ensures.items) (to_last p _ (c.in_ok-add_others.ensures.lines found))
