use Rattle.std.proofs.Common.{◌<◌, length, ap, sym, ◌∙◌, subst, arith}
use Rattle.row_pool.specs.declared.cell.Cell.{Cell}
use Rattle.row_pool.specs.Reach.{known_reach}
use Rattle.distances.specs.Reaches.{IsReachBy}
use Rattle.distances.proofs.Puts.{cell_read}
use Rattle.distances.proofs.Stopping.{reach_by}
use Rattle.distances.proofs.reach.find_reach.Goals as goal

pub returns-clause-reach : goal.returns-clause-reach
returns-clause-reach g c =
    let l : c.args.q < length c.settle_until.new.row = omega (arith, c.requires.q, c.requires.cells, c.clear.auto.row, c.settle_until.auto.row) in
    subst (λ r. IsReachBy c.args.search.now.side c.args.search.now.graph c.args.p c.args.q r)
    (sym (c.reach.ensures ∙ ap (λ (x : Cell). known_reach x.known x.value) (cell_read c.settle_until.new.row c.args.q l)))
    (reach_by c.args.search.now.side c.args.search.now.graph c.exact.ensures.graph c.args.p c.args.q c.requires.p c.requires.q _ c.settle_until.ensures.reach)
