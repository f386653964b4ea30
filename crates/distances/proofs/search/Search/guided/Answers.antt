use Rattle.std.proofs.Common.{◌≡◌, sym, subst, to_z, of_z, rules}
use mir.Syntax.{w128}
use mir.Val.{SFits}
use Rattle.std.proofs.lemmas.Int.{to_z-of_z}
use Rattle.distances.specs.Guides.{guided_values, IsSmallGuide}
use Rattle.distances.specs.Searched.{IsSearch}
use Rattle.distances.proofs.Directions.{earliest_small}
use Rattle.distances.proofs.search.Search.guided.Goals as goal

pub invariant_of-result : goal.invariant_of-result
invariant_of-result c =
    let fits : SFits w128 c.args.beyond = search rules in
    let is : to_z w128 (of_z w128 c.args.beyond) ≡ c.args.beyond = to_z-of_z w128 c.args.beyond fits in
    let guide : IsSmallGuide (record { from = c.args.from.now; to = c.args.to.now; fence = c.args.fence.now; beyond = c.args.beyond }) = c.requires.guide in
    let ordered : IsSearch (record { graph = c.args.graph.now; values = guided_values (record { from = c.args.from.now; to = c.args.to.now; fence = c.args.fence.now; beyond = c.args.beyond }) c.args.earliest.now.values; side = c.args.side }) = c.requires.ordered in (
      c.requires.solved,
      c.requires.earliest.execution.one_each,
      earliest_small c.args.graph.now c.requires.ordered.graph c.args.earliest.now.values c.requires.earliest,
      subst (λ b. IsSmallGuide (record { from = c.args.from.now; to = c.args.to.now; fence = c.args.fence.now; beyond = b })) (sym is) guide,
      subst (λ b. IsSearch (record { graph = c.args.graph.now; values = guided_values (record { from = c.args.from.now; to = c.args.to.now; fence = c.args.fence.now; beyond = b }) c.args.earliest.now.values; side = c.args.side })) (sym is) ordered,
    )
