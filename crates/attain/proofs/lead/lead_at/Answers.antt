use Rattle.std.proofs.Common.{◌+◌, ◌∙◌, sym, subst}
use Rattle.std.proofs.lemmas.Int.{to_z-of_z}
use mir.Syntax.{w128}
use Rattle.problem_model.specs.Numbers.{IsUpTo}
use Rattle.problem_model.specs.Limits.{path_bits}
use Rattle.attain.specs.RowLists.{cells_for}
use Rattle.attain.proofs.Leads.{lead_small, sum_is}
use Rattle.attain.proofs.RowFacts.{known_node, valued, row_sizes}
use Rattle.attain.proofs.lead.lead_at.Goals as goal

pub value-requires : goal.value-requires
value-requires c = known_node c.args.side c.args.rows.now c.exact.ensures c.args.node c.requires

pub returns-clause-lead : goal.returns-clause-lead
returns-clause-lead c =
    let r = c.args.rows.now in
    let within = known_node c.args.side r c.exact.ensures c.args.node c.requires in
    sum_is c.args.side r.values (cells_for c.args.side r) c.args.node (row_sizes c.args.side r c.exact.ensures) (valued r c.exact.ensures c.args.node within) c.requires
    _ _ (to_z-of_z w128 c.difference.result (record { sfits = c.difference.type_inv }) ∙ c.difference.ensures.value)
    (to_z-of_z w128 c.value.result (record { sfits = c.value.type_inv }) ∙ c.value.ensures.value)

pub returns-clause-small : goal.returns-clause-small
returns-clause-small c =
    let r = c.args.rows.now in
    let within = known_node c.args.side r c.exact.ensures c.args.node c.requires in
    subst (IsUpTo (path_bits + 2)) (sym (returns-clause-lead c)) (lead_small c.args.side r.values (cells_for c.args.side r) c.args.node (row_sizes c.args.side r c.exact.ensures) (valued r c.exact.ensures c.args.node within) c.requires)
