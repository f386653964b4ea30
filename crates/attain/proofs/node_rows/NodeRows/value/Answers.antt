use Rattle.std.proofs.Common.{◌<◌, ◌∙◌, length, sym, subst}
use Rattle.std.proofs.lemmas.Int.{to_z-of_z}
use mir.Syntax.{w128}
use Rattle.problem_model.specs.Numbers.{IsUpTo}
use Rattle.problem_model.specs.Limits.{path_bits}
use Rattle.attain.specs.declared.side.Side.TheVariants.{Upper}
use Rattle.attain.specs.RowLists.{RowLists}
use Rattle.attain.proofs.RowFacts.{valued, row_sizes}
use Rattle.attain.proofs.node_rows.NodeRows.value.Goals as goal

pub value-requires-clause-node : goal.value-requires-clause-node
value-requires-clause-node c = valued _ c.self.invariant.1 c.args.node (subst (λ (r : RowLists). c.args.node < length r.graph.nodes) (sym c.self.view_is) c.requires)

pub returns-clause-small : goal.returns-clause-small
returns-clause-small c =
    let within = valued _ c.self.invariant.1 c.args.node (subst (λ (r : RowLists). c.args.node < length r.graph.nodes) (sym c.self.view_is) c.requires) in
    subst (IsUpTo path_bits) (sym (to_z-of_z w128 c.value.result (record { sfits = c.value.type_inv }) ∙ c.value.ensures)) ((row_sizes Upper _ c.self.invariant.1).at_nodes c.args.node within)
