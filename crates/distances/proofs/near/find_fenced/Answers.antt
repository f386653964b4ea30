use Rattle.std.proofs.Common.{sym, subst, rules}
use mir.Syntax.{w128}
use mir.Val.{SFits}
use Rattle.std.proofs.lemmas.Int.{to_z-of_z}
use Rattle.sync_graph.specs.Graph.{table_of}
use Rattle.row_pool.specs.Row.{cell_at}
use Rattle.distances.specs.declared.side.Side.TheVariants.{Towards}
use Rattle.distances.specs.Ends.{IsFenceAround}
use Rattle.distances.specs.Guides.{IsFence}
use Rattle.distances.specs.Reaches.{IsReachOver}
use Rattle.distances.specs.Searched.{Searched, table, height}
use Rattle.distances.proofs.Guiding.{rows_search, rows_guide}
use Rattle.distances.proofs.Stopping.{reach_turned}
use Rattle.distances.proofs.near.find_fenced.Goals as goal

pub guided-back-requires-clause-guide : goal.guided-back-requires-clause-guide
guided-back-requires-clause-guide g c =
    rows_guide c.args.around.now.graph.now c.exact.ensures c.args.around.now.earliest.now.values c.requires.earliest c.args.around.now.from.now c.args.around.now.to.now c.requires.rows.0
    c.requires.few c.requires.rows.1 c.requires.rows.2

pub guided-back-requires-clause-ordered : goal.guided-back-requires-clause-ordered
guided-back-requires-clause-ordered g c =
    rows_search c.args.around.now.graph.now c.exact.ensures c.args.around.now.earliest.now.values c.requires.earliest c.args.around.now.from.now c.args.around.now.to.now c.requires.rows.0
    c.requires.few c.requires.rows.1 c.requires.rows.2 Towards

pub find_ahead-requires-clause-fence : goal.find_ahead-requires-clause-fence
find_ahead-requires-clause-fence g c =
    let fits : SFits w128 c.in-Beyond.beyond = search rules in
    subst (IsFenceAround c.args.around.now.graph.now c.args.around.now.from.now c.args.around.now.to.now c.args.around.now.earliest.now.values c.args.q c.search_some.new.row) (sym (to_z-of_z w128 c.in-Beyond.beyond fits))
    (subst (λ (s : Searched). IsFence (table s) c.args.q (height s) c.in-Beyond.beyond (λ k. (cell_at c.search_some.new.row k).known) (λ k. (cell_at c.search_some.new.row k).value)) c.guided-back.ensures c.in-Beyond.ensures.end)

pub returns-in-Known-clause-reach : goal.returns-in-Known-clause-reach
returns-in-Known-clause-reach g c =
    reach_turned (table_of c.args.around.now.graph.now) c.args.q c.args.p c.in-Known.reach
    (subst (λ (s : Searched). IsReachOver (table s) c.args.q c.args.p c.in-Known.reach) c.guided-back.ensures c.in-Known.ensures.end)
