use Rattle.std.proofs.Common.{◌≡◌, ◌<◌, length, sym, subst, ◌∙◌, to_z, of_z, rules}
use mir.Syntax.{w128}
use mir.Val.{SFits}
use Rattle.std.proofs.lemmas.Int.{to_z-of_z}
use Rattle.problem_model.specs.Executions.{at}
use Rattle.distances.specs.Searched.{Searched}
use Rattle.distances.proofs.Guiding.{read_guided}
use Rattle.distances.proofs.search.Search.value.Goals as goal

pub returns : goal.returns
returns c =
    let below : c.args.node < length c.self.inside.graph.now.nodes = subst (λ (s : Searched). c.args.node < length s.graph.nodes) (sym c.self.view_is) c.requires.node in
    let within : c.args.node < length c.self.inside.earliest.now.values = subst (λ n. c.args.node < n) (sym c.self.invariant.1) below in
    let beyond : SFits w128 c.self.inside.beyond = search rules in
    subst (λ (s : Searched). to_z w128 (of_z w128 c.guided_value.result) ≡ at s.values c.args.node) c.self.view_is
    (read_guided c.self.inside.guided (record { from = c.self.inside.from.now; to = c.self.inside.to.now; fence = c.self.inside.fence.now; beyond = c.self.inside.beyond })
    c.self.inside.earliest.now.values c.args.node c.cell_of-from.result c.cell_of-to.result c.cell_of-fence.result
    (to_z w128 (of_z w128 c.value-value.result)) (to_z w128 (of_z w128 c.self.inside.beyond)) (to_z w128 (of_z w128 c.guided_value.result))
    c.if-not-self.false within c.cell_of-from.ensures c.cell_of-to.ensures c.cell_of-fence.ensures
    (to_z-of_z w128 c.value-value.result (record { sfits = c.value-value.type_inv }) ∙ c.value-value.ensures) (to_z-of_z w128 c.self.inside.beyond beyond)
    (to_z-of_z w128 c.guided_value.result (record { sfits = c.guided_value.type_inv }) ∙ c.guided_value.ensures))
