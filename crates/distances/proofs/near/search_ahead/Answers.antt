use Rattle.std.proofs.Common.{◌≡◌, ap, sym, subst, to_z, of_z, rules}
use Rattle.std.specs.Prelude.{IfSome}
use mir.Syntax.{w128}
use mir.Val.{SFits}
use Rattle.std.proofs.lemmas.Int.{to_z-of_z}
use Rattle.problem_model.specs.Numbers.{IsUpTo}
use Rattle.problem_model.specs.Tables.{ArcTable}
use Rattle.sync_graph.specs.Graph.{table_of}
use Rattle.row_pool.specs.Row.{cell_at}
use Rattle.distances.specs.declared.side.Side.TheVariants.{From}
use Rattle.distances.specs.Ends.{told_reach, IsFenceAround}
use Rattle.distances.specs.Reaches.{IsReachOver}
use Rattle.distances.specs.Searched.{table, height}
use Rattle.distances.proofs.Guiding.{fenced_search, fenced_guide, told_so}
use Rattle.distances.proofs.near.search_ahead.Goals as goal

pub guided-search-requires-clause-guide : goal.guided-search-requires-clause-guide
guided-search-requires-clause-guide g c =
    let fits : SFits w128 c.args.fence.now.beyond = search rules in
    let is : to_z w128 (of_z w128 c.args.fence.now.beyond) ≡ c.args.fence.now.beyond = to_z-of_z w128 c.args.fence.now.beyond fits in
    let near : IsUpTo 116 (to_z w128 (of_z w128 c.args.fence.now.beyond)) = c.is_small.ensures c.if-not-is_small.false in
    fenced_guide c.args.around.now.graph.now c.exact.ensures c.args.around.now.earliest.now.values c.requires.earliest c.args.around.now.from.now c.args.around.now.to.now c.requires.rows.0
    c.requires.few c.requires.rows.1 c.requires.rows.2 c.args.fence.now.cells.now (to_z w128 (of_z w128 c.args.fence.now.beyond)) c.args.q c.requires.q c.requires.surrounded near
    (subst (IsFenceAround c.args.around.now.graph.now c.args.around.now.from.now c.args.around.now.to.now c.args.around.now.earliest.now.values c.args.q c.args.fence.now.cells.now) (sym is) c.requires.fence)

pub guided-search-requires-clause-ordered : goal.guided-search-requires-clause-ordered
guided-search-requires-clause-ordered g c =
    let fits : SFits w128 c.args.fence.now.beyond = search rules in
    let is : to_z w128 (of_z w128 c.args.fence.now.beyond) ≡ c.args.fence.now.beyond = to_z-of_z w128 c.args.fence.now.beyond fits in
    let near : IsUpTo 116 (to_z w128 (of_z w128 c.args.fence.now.beyond)) = c.is_small.ensures c.if-not-is_small.false in
    fenced_search c.args.around.now.graph.now c.exact.ensures c.args.around.now.earliest.now.values c.requires.earliest c.args.around.now.from.now c.args.around.now.to.now c.requires.rows.0
    c.requires.few c.requires.rows.1 c.requires.rows.2 c.args.fence.now.cells.now (to_z w128 (of_z w128 c.args.fence.now.beyond)) c.args.q c.requires.q c.requires.surrounded near
    (subst (IsFenceAround c.args.around.now.graph.now c.args.around.now.from.now c.args.around.now.to.now c.args.around.now.earliest.now.values c.args.q c.args.fence.now.cells.now) (sym is) c.requires.fence) From

pub returns-clause-reach : goal.returns-clause-reach
returns-clause-reach g c =
    subst (λ r. IfSome r (λ reach. IsReachOver (table_of c.args.around.now.graph.now) c.args.p c.args.q reach)) (sym c.told_by.ensures)
    (subst (λ (t : ArcTable). IfSome (told_reach c.search_some-end.result) (λ reach. IsReachOver t c.args.p c.args.q reach)) (ap table c.guided-search.ensures)
    (told_so (table c.guided-search.result) c.args.p c.args.q (height c.guided-search.result) (λ k. (cell_at c.search_some-end.new.row k).known) (λ k. (cell_at c.search_some-end.new.row k).value) c.search_some-end.result c.search_some-end.ensures.end))
