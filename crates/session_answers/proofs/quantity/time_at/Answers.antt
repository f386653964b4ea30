use Rattle.std.proofs.Common.{◌*◌, sym, ◌∙◌, ap, subst}
use Rattle.std.specs.Prelude.{pos}
use Rattle.row_pool.specs.declared.cell.Pair.{Pair}
use Rattle.intervals.specs.Ends.{FitsPair, ends_of, shifted}
use Rattle.session_answers.proofs.RowPairs.{source_is}
use Rattle.session_answers.proofs.quantity.time_at.Goals as goal

pub source_time-requires : goal.source_time-requires
source_time-requires c =
    let s = c.args.solver.now in
    let told = c.in-Some.ensures in
    subst FitsPair (sym (source_is s c.requires.current c.requires.none told.0 told.1 c.args.node c.in-Some.pair c.requires.below told.2)) c.requires.fits

pub unreachable-requires : goal.unreachable-requires
unreachable-requires c = c.requires.kept c.in-None.ensures

pub returns : goal.returns
returns c =
    let s = c.args.solver.now in
    let told = c.in-Some.ensures in
    c.source_time.ensures
    ∙ ap (λ (pair : Pair). shifted (pos (c.args.stamp * 1000000000)) (ends_of pair)) (source_is s c.requires.current c.requires.none told.0 told.1 c.args.node c.in-Some.pair c.requires.below told.2)
