use Rattle.std.proofs.Common.{◌≤◌, ℕ, List, length, sym, subst, ◌∙◌, arith}
use Rattle.problem_model.specs.Parents.{IsRow}
use Rattle.problem_model.specs.Tables.{reversed_table, without}
use Rattle.sync_graph.specs.Graph.{table_of}
use Rattle.row_pool.specs.declared.cell.Cell.{Cell}
use Rattle.row_pool.specs.Row.{cells_of}
use Rattle.distances.specs.Searched.{nodes}
use Rattle.distances.specs.Changes.{AreBlank}
use Rattle.repair.proofs.Turning.{from_row, from_before, from_cost, back_nodes, back_row, back_before, back_force, back_cost}
use Rattle.repair.proofs.Writing.{taken_still, other_still, changes_both, made_rows, few_steps}
use Rattle.repair.proofs.renew.repair_rows.Goals as goal

pub repair_row-requires-clause-before : goal.repair_row-requires-clause-before
repair_row-requires-clause-before g c =
    from_before c.args.search.now c.requires.can.outward c.args.arc c.args.slot.now.node c.row_mut-from.result.now
    (subst (λ (cs : List Cell). IsRow (nodes c.args.search.now) (without (table_of c.args.search.now.graph) c.args.arc) c.args.slot.now.node (cells_of cs)) (sym c.row_mut-from.ensures.value) c.requires.before.from)

pub repair_row-requires-clause-cells : goal.repair_row-requires-clause-cells
repair_row-requires-clause-cells g c = omega (arith, c.requires.can.rows, c.row_mut-from.ensures.width)

pub repair_row-requires-clause-room : goal.repair_row-requires-clause-room
repair_row-requires-clause-room g c = c.requires.can.queue

pub row_mut-to-requires : goal.row_mut-to-requires
row_mut-to-requires g c = taken_still c.args.pool.now c.args.slot.now c.width-width.ensures.lawful c.requires.has c.repair_row.new.row (c.repair_row.auto.row ∙ c.row_mut-from.ensures.width)

pub repair_row-requires-2-clause-in_force : goal.repair_row-requires-2-clause-in_force
repair_row-requires-2-clause-in_force g c = back_force c.args.search.now c.requires.can.outward c.turned-back.result c.turned-back.ensures c.args.arc c.requires.in_force

pub repair_row-requires-2-clause-before : goal.repair_row-requires-2-clause-before
repair_row-requires-2-clause-before g c =
    back_before c.args.search.now c.requires.can.outward c.turned-back.result c.turned-back.ensures c.args.arc c.args.slot.now.node c.row_mut-to.result.now
    (subst (λ (cs : List Cell). IsRow (nodes c.args.search.now) (reversed_table (without (table_of c.args.search.now.graph) c.args.arc)) c.args.slot.now.node (cells_of cs))
    (sym (c.row_mut-to.ensures.value ∙ other_still c.args.pool.now c.args.slot.now c.width-width.ensures.lawful c.requires.has c.repair_row.new.row (c.repair_row.auto.row ∙ c.row_mut-from.ensures.width)))
    c.requires.before.to)

pub repair_row-requires-2-clause-cells : goal.repair_row-requires-2-clause-cells
repair_row-requires-2-clause-cells g c =
    let rows : nodes c.args.search.now ≤ length c.row_mut-to.result.now = omega (arith, c.requires.can.rows, c.row_mut-to.ensures.width) in
    subst (λ (n : ℕ). n ≤ length c.row_mut-to.result.now) (sym (back_nodes c.args.search.now c.requires.can.outward c.turned-back.result c.turned-back.ensures)) rows

pub repair_row-requires-2-clause-room : goal.repair_row-requires-2-clause-room
repair_row-requires-2-clause-room g c =
    let room : nodes c.args.search.now ≤ c.repair_row.new.queue = omega (arith, c.requires.can.queue, c.repair_row.ensures.queue) in
    subst (λ (n : ℕ). n ≤ c.repair_row.new.queue) (sym (back_nodes c.args.search.now c.requires.can.outward c.turned-back.result c.turned-back.ensures)) room

pub returns-clause-rows : goal.returns-clause-rows
returns-clause-rows g c =
    made_rows c.args.pool.now c.args.slot.now c.width-width.ensures.lawful c.requires.has c.repair_row.new.row (c.repair_row.auto.row ∙ c.row_mut-from.ensures.width)
    c.repair_row-2.new.row (c.repair_row-2.auto.row ∙ c.row_mut-to.ensures.width) _ _
    (from_row c.args.search.now c.requires.can.outward _ _ c.repair_row.ensures.row) (c.repair_row.ensures.blank (subst AreBlank (sym c.row_mut-from.ensures.value) c.requires.before.blank_from))
    (back_row c.args.search.now c.requires.can.outward c.turned-back.result c.turned-back.ensures _ _ c.repair_row-2.ensures.row)
    (c.repair_row-2.ensures.blank (subst AreBlank (sym (c.row_mut-to.ensures.value ∙ other_still c.args.pool.now c.args.slot.now c.width-width.ensures.lawful c.requires.has c.repair_row.new.row (c.repair_row.auto.row ∙ c.row_mut-from.ensures.width))) c.requires.before.blank_to))

pub returns-clause-changes : goal.returns-clause-changes
returns-clause-changes g c =
    changes_both c.args.pool.now c.args.slot.now c.width-width.ensures.lawful c.requires.has c.repair_row.new.row (c.repair_row.auto.row ∙ c.row_mut-from.ensures.width)
    c.repair_row-2.new.row (c.repair_row-2.auto.row ∙ c.row_mut-to.ensures.width)

pub returns-clause-few : goal.returns-clause-few
returns-clause-few g c =
    few_steps c.args.pool.now c.args.slot.now c.width-width.ensures.lawful c.requires.has c.repair_row.new.row (c.repair_row.auto.row ∙ c.row_mut-from.ensures.width)
    c.repair_row-2.new.row (c.repair_row-2.auto.row ∙ c.row_mut-to.ensures.width) c.args.search.now.graph _ _ _ _ _ c.row_mut-from.ensures.value c.row_mut-to.ensures.value
    (from_cost c.args.search.now c.requires.can.outward _ _ _ _ c.repair_row.ensures.cost) (back_cost c.args.search.now c.requires.can.outward c.turned-back.result c.turned-back.ensures _ _ _ _ c.repair_row-2.ensures.cost)
