use Rattle.std.proofs.Common.{◌∷◌, ◌++◌, sym, subst}
use Rattle.std.specs.Prelude.{All}
use Rattle.cert_check.specs.declared.what.Clocks.TheVariants as clocks
use Rattle.cert_check.specs.declared.what.What.TheVariants.{Stamps, Rates}
use Rattle.widen.specs.Search.{IsCycleOf}
use Rattle.widen.specs.Blame.{gap_candidates, single_candidates}
use Rattle.widen.proofs.blame.add_kinds.Goals as goal

pub add_gaps-requires-clause-cycles : goal.add_gaps-requires-clause-cycles
add_gaps-requires-clause-cycles g c = subst (All (IsCycleOf c.args.p.now)) (sym c.add_line.ensures.cycles) c.in_ok-add_found-2.ensures.cycles

pub returns-clause-lines : goal.returns-clause-lines
returns-clause-lines g c = λ so_far.
    let p = c.args.p.now in
    let gaps = gap_candidates p.follows ++ single_candidates p in
    c.in_ok-add_gaps.ensures.lines (single_candidates p)
    (c.in_ok-add_line.ensures.lines gaps (c.in_ok-add_found-2.ensures.lines (Rates clocks.All ∷ gaps) (c.in_ok-add_found.ensures.lines (Stamps clocks.All ∷ Rates clocks.All ∷ gaps) so_far)))
