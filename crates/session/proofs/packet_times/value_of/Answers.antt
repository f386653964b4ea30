use Rattle.std.proofs.Common.{◌∙◌, ap, ℕ, rules}
use Rattle.std.proofs.lemmas.Int.{to_z-of_z}
use mir.Syntax.{w128}
use mir.Val.{SFits}
use Rattle.std.proofs.lemmas.Option.{slice_get_within}
use Rattle.problem_model.specs.Executions.{at}
use Rattle.problem_model.specs.declared.items.Node.TheVariants as nodes
use Rattle.session.proofs.Settles.{number_inside, node_found}
use Rattle.session.proofs.packet_times.value_of.Goals as goal

pub event-came-requires : goal.event-came-requires
event-came-requires c = number_inside c.args.names.now c.decl.ensures.lawful c.args.event c.number_of.result c.number_of.ensures

pub value-requires-clause-node : goal.value-requires-clause-node
value-requires-clause-node c =
    slice_get_within c.args.solver.now.graph.nodes c.event-came.result.node (nodes.Event c.number_of.result) (c.requires.nodes.events c.number_of.result c.event-came.result c.event-came.ensures)

pub returns : goal.returns
returns c =
    let fits : SFits w128 c.value.result = search rules in
    to_z-of_z w128 c.value.result fits ∙ c.value.ensures ∙ ap (λ (n : ℕ). at c.args.solver.now.earliest.values n)
    (node_found c.args.names.now c.decl.ensures.lawful c.args.event c.number_of.result c.event-came.result c.number_of.ensures c.event-came.ensures)
