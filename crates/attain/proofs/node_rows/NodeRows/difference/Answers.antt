use Rattle.std.proofs.Common.{◌∙◌, ap, sym, subst}
use Rattle.std.proofs.lemmas.Int.{to_z-of_z}
use mir.Syntax.{w128}
use Rattle.problem_model.specs.Numbers.{IsUpTo}
use Rattle.problem_model.specs.Limits.{path_bits}
use Rattle.row_pool.specs.declared.cell.Cell.{Cell}
use Rattle.attain.specs.Sides.{signed}
use Rattle.attain.proofs.Leads.{signed_small}
use Rattle.attain.proofs.RowFacts.{known_node, row_sizes}
use Rattle.attain.proofs.node_rows.NodeRows.difference.Goals as goal

pub cell-requires : goal.cell-requires
cell-requires c = known_node c.args.side c.args.self.now c.exact.ensures c.args.node c.requires

pub difference-requires : goal.difference-requires
difference-requires c = subst (λ (x : Cell). IsUpTo path_bits x.value) (sym c.cell.ensures) ((row_sizes c.args.side c.args.self.now c.exact.ensures).distances c.args.node c.requires)

pub returns-clause-value : goal.returns-clause-value
returns-clause-value c = to_z-of_z w128 c.difference.result (record { sfits = c.difference.type_inv }) ∙ c.difference.ensures ∙ ap (λ (x : Cell). signed c.args.side x.value) c.cell.ensures

pub returns-clause-small : goal.returns-clause-small
returns-clause-small c = subst (IsUpTo path_bits) (sym (returns-clause-value c)) (signed_small c.args.side _ ((row_sizes c.args.side c.args.self.now c.exact.ensures).distances c.args.node c.requires))
