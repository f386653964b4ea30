use Rattle.std.proofs.Common.{◌<◌, ◌≤◌, ℕ, length, sym, subst, ◌∙◌, arith}
use Rattle.distances.specs.Searched.{nodes}
use Rattle.repair.proofs.Turning.{from_row, back_nodes, back_row}
use Rattle.repair.proofs.Writing.{taken_still, changes_both, made_rows}
use Rattle.repair.proofs.renew.make_rows.Goals as goal

pub make_row-requires-clause-cells : goal.make_row-requires-clause-cells
make_row-requires-clause-cells g c = omega (arith, c.requires.can.rows, c.row_mut.ensures.width)

pub make_row-requires-clause-room : goal.make_row-requires-clause-room
make_row-requires-clause-room g c = c.requires.can.queue

pub row_mut-requires-2 : goal.row_mut-requires-2
row_mut-requires-2 g c = taken_still c.args.pool.now c.args.slot.now c.width-width.ensures.lawful c.requires.has c.make_row.new.row (c.make_row.auto.row ∙ c.row_mut.ensures.width)

pub make_row-requires-2-clause-node : goal.make_row-requires-2-clause-node
make_row-requires-2-clause-node g c = subst (λ (n : ℕ). c.args.slot.now.node < n) (sym (back_nodes c.args.search.now c.requires.can.outward c.turned-back.result c.turned-back.ensures)) c.requires.node

pub make_row-requires-2-clause-cells : goal.make_row-requires-2-clause-cells
make_row-requires-2-clause-cells g c =
    let rows : nodes c.args.search.now ≤ length c.row_mut-2.result.now = omega (arith, c.requires.can.rows, c.row_mut-2.ensures.width) in
    subst (λ (n : ℕ). n ≤ length c.row_mut-2.result.now) (sym (back_nodes c.args.search.now c.requires.can.outward c.turned-back.result c.turned-back.ensures)) rows

pub make_row-requires-2-clause-room : goal.make_row-requires-2-clause-room
make_row-requires-2-clause-room g c =
    let room : nodes c.args.search.now ≤ c.make_row.new.queue = omega (arith, c.requires.can.queue, c.make_row.ensures.queue) in
    subst (λ (n : ℕ). n ≤ c.make_row.new.queue) (sym (back_nodes c.args.search.now c.requires.can.outward c.turned-back.result c.turned-back.ensures)) room

pub returns-clause-rows : goal.returns-clause-rows
returns-clause-rows g c =
    made_rows c.args.pool.now c.args.slot.now c.width-width.ensures.lawful c.requires.has c.make_row.new.row (c.make_row.auto.row ∙ c.row_mut.ensures.width)
    c.make_row-2.new.row (c.make_row-2.auto.row ∙ c.row_mut-2.ensures.width) _ _
    (from_row c.args.search.now c.requires.can.outward _ _ c.make_row.ensures.row) c.make_row.ensures.blank
    (back_row c.args.search.now c.requires.can.outward c.turned-back.result c.turned-back.ensures _ _ c.make_row-2.ensures.row) c.make_row-2.ensures.blank

pub returns-clause-changes : goal.returns-clause-changes
returns-clause-changes g c =
    changes_both c.args.pool.now c.args.slot.now c.width-width.ensures.lawful c.requires.has c.make_row.new.row (c.make_row.auto.row ∙ c.row_mut.ensures.width)
    c.make_row-2.new.row (c.make_row-2.auto.row ∙ c.row_mut-2.ensures.width)
