use Rattle.std.proofs.Common.{ℕ, ◌≤◌, ◌∷◌, [], List, length, sum_by, sym, subst, ◌∙◌, arith}
use Rattle.std.proofs.lemmas.List.Elements.{All-nil, All-cons, All-head}
use Rattle.problem_model.specs.Parents.{IsRow}
use Rattle.problem_model.specs.Tables.{reversed_table}
use Rattle.sync_graph.specs.Graph.{table_of}
use Rattle.row_pool.specs.declared.cell.Cell.{Cell}
use Rattle.row_pool.specs.Row.{cells_of}
use Rattle.repair.specs.RowWithdrawals.{IsAffectedFrom, IsAffectedTo}
use Rattle.distances.specs.declared.side.Side.{Side}
use Rattle.distances.specs.Facing.{facing}
use Rattle.distances.specs.Searched.{nodes}
use Rattle.distances.specs.Changes.{AreBlank}
use Rattle.repair.specs.declared.slot.Slot.{Slot}
use Rattle.repair.specs.Slots.{IsRowsOf}
use Rattle.repair.specs.Withdrawals.{MarksAffected, AreMarkedAtMost, LeavesCells, withdrawal_steps}
use Rattle.repair.proofs.Renewing.{steps_of_one}
use Rattle.repair.proofs.Withdrawing.{few_rows}
use Rattle.repair.proofs.Turning.{from_row, from_few, from_places, from_cells, back_nodes, back_side, back_row, back_withdrawn, back_few, back_places, back_cells}
use Rattle.repair.proofs.Writing.{taken_still, other_still, changes_both, leaves_both, made_rows}
use Rattle.repair.proofs.withdrawal.withdraw_rows.Goals as goal

pub withdraw_row-requires-clause-before : goal.withdraw_row-requires-clause-before
withdraw_row-requires-clause-before g c =
    let b = c.requires.before in
    let is : IsRowsOf (length b.0.nodes) (table_of b.0) c.args.pool.now c.args.slot.now = All-head (IsRowsOf (length b.0.nodes) (table_of b.0) c.args.pool.now) c.args.slot.now [] b.2 in (
      b.0,
      b.1,
      subst (λ (d : Side). IsRow (length b.0.nodes) (facing d b.0) c.args.slot.now.node (cells_of c.row_mut-from.result.now)) (sym c.requires.can.outward)
          (subst (λ (cs : List Cell). IsRow (length b.0.nodes) (table_of b.0) c.args.slot.now.node (cells_of cs)) (sym c.row_mut-from.ensures.value) is.from),
    )

pub withdraw_row-requires-clause-blank : goal.withdraw_row-requires-clause-blank
withdraw_row-requires-clause-blank g c =
    let b = c.requires.before in
    let is : IsRowsOf (length b.0.nodes) (table_of b.0) c.args.pool.now c.args.slot.now = All-head (IsRowsOf (length b.0.nodes) (table_of b.0) c.args.pool.now) c.args.slot.now [] b.2 in
    subst AreBlank (sym c.row_mut-from.ensures.value) is.blank_from

pub withdraw_row-requires-clause-cells : goal.withdraw_row-requires-clause-cells
withdraw_row-requires-clause-cells g c = omega (arith, c.requires.can.rows, c.row_mut-from.ensures.width)

pub withdraw_row-requires-clause-room : goal.withdraw_row-requires-clause-room
withdraw_row-requires-clause-room g c = c.requires.can.queue

pub row_mut-to-requires : goal.row_mut-to-requires
row_mut-to-requires g c = taken_still c.args.pool.now c.args.slot.now c.width-width.ensures.lawful c.requires.has c.withdraw_row.new.row (c.withdraw_row.auto.row ∙ c.row_mut-from.ensures.width)

pub withdraw_row-requires-2-clause-before : goal.withdraw_row-requires-2-clause-before
withdraw_row-requires-2-clause-before g c =
    let b = c.requires.before in
    let is : IsRowsOf (length b.0.nodes) (table_of b.0) c.args.pool.now c.args.slot.now = All-head (IsRowsOf (length b.0.nodes) (table_of b.0) c.args.pool.now) c.args.slot.now [] b.2 in (
      b.0,
      back_withdrawn c.args.withdrawal.now.search c.requires.can.outward c.turned-back.result.search c.turned-back.ensures.search b.0 c.args.withdrawal.now.removed.now c.turned-back.result.removed.now c.turned-back.ensures.removed b.1,
      subst (λ (d : Side). IsRow (length b.0.nodes) (facing d b.0) c.args.slot.now.node (cells_of c.row_mut-to.result.now)) (sym (back_side c.args.withdrawal.now.search c.requires.can.outward c.turned-back.result.search c.turned-back.ensures.search))
          (subst (λ (cs : List Cell). IsRow (length b.0.nodes) (reversed_table (table_of b.0)) c.args.slot.now.node (cells_of cs))
          (sym (c.row_mut-to.ensures.value ∙ other_still c.args.pool.now c.args.slot.now c.width-width.ensures.lawful c.requires.has c.withdraw_row.new.row (c.withdraw_row.auto.row ∙ c.row_mut-from.ensures.width)))
          is.to),
    )

pub withdraw_row-requires-2-clause-blank : goal.withdraw_row-requires-2-clause-blank
withdraw_row-requires-2-clause-blank g c =
    let b = c.requires.before in
    let is : IsRowsOf (length b.0.nodes) (table_of b.0) c.args.pool.now c.args.slot.now = All-head (IsRowsOf (length b.0.nodes) (table_of b.0) c.args.pool.now) c.args.slot.now [] b.2 in
    subst AreBlank (sym (c.row_mut-to.ensures.value ∙ other_still c.args.pool.now c.args.slot.now c.width-width.ensures.lawful c.requires.has c.withdraw_row.new.row (c.withdraw_row.auto.row ∙ c.row_mut-from.ensures.width))) is.blank_to

pub withdraw_row-requires-2-clause-cells : goal.withdraw_row-requires-2-clause-cells
withdraw_row-requires-2-clause-cells g c =
    let rows : nodes c.args.withdrawal.now.search ≤ length c.row_mut-to.result.now = omega (arith, c.requires.can.rows, c.row_mut-to.ensures.width) in
    subst (λ (n : ℕ). n ≤ length c.row_mut-to.result.now) (sym (back_nodes c.args.withdrawal.now.search c.requires.can.outward c.turned-back.result.search c.turned-back.ensures.search)) rows

pub withdraw_row-requires-2-clause-found : goal.withdraw_row-requires-2-clause-found
withdraw_row-requires-2-clause-found g c =
    let found : nodes c.args.withdrawal.now.search ≤ length c.withdraw_row.new.found = omega (arith, c.requires.found, c.withdraw_row.auto.found) in
    subst (λ (n : ℕ). n ≤ length c.withdraw_row.new.found) (sym (back_nodes c.args.withdrawal.now.search c.requires.can.outward c.turned-back.result.search c.turned-back.ensures.search)) found

pub withdraw_row-requires-2-clause-room : goal.withdraw_row-requires-2-clause-room
withdraw_row-requires-2-clause-room g c =
    let room : nodes c.args.withdrawal.now.search ≤ c.withdraw_row.new.queue = omega (arith, c.requires.can.queue, c.withdraw_row.ensures.queue) in
    subst (λ (n : ℕ). n ≤ c.withdraw_row.new.queue) (sym (back_nodes c.args.withdrawal.now.search c.requires.can.outward c.turned-back.result.search c.turned-back.ensures.search)) room

pub returns-clause-rows : goal.returns-clause-rows
returns-clause-rows g c =
    made_rows c.args.pool.now c.args.slot.now c.width-width.ensures.lawful c.requires.has c.withdraw_row.new.row (c.withdraw_row.auto.row ∙ c.row_mut-from.ensures.width)
    c.withdraw_row-2.new.row (c.withdraw_row-2.auto.row ∙ c.row_mut-to.ensures.width) _ _
    (from_row c.args.withdrawal.now.search c.requires.can.outward _ _ c.withdraw_row.ensures.row) c.withdraw_row.ensures.blank
    (back_row c.args.withdrawal.now.search c.requires.can.outward c.turned-back.result.search c.turned-back.ensures.search _ _ c.withdraw_row-2.ensures.row) c.withdraw_row-2.ensures.blank

pub returns-clause-changes : goal.returns-clause-changes
returns-clause-changes g c =
    changes_both c.args.pool.now c.args.slot.now c.width-width.ensures.lawful c.requires.has c.withdraw_row.new.row (c.withdraw_row.auto.row ∙ c.row_mut-from.ensures.width)
    c.withdraw_row-2.new.row (c.withdraw_row-2.auto.row ∙ c.row_mut-to.ensures.width)

pub returns-clause-few : goal.returns-clause-few
returns-clause-few g c = λ marks all.
    let slot : Slot = c.args.slot.now in
    let m : MarksAffected c.args.withdrawal.now.search.graph c.args.withdrawal.now.removed.now c.args.pool.now marks slot = All-head (MarksAffected c.args.withdrawal.now.search.graph c.args.withdrawal.now.removed.now c.args.pool.now marks) slot [] all in
    let same = c.row_mut-to.ensures.value ∙ other_still c.args.pool.now c.args.slot.now c.width-width.ensures.lawful c.requires.has c.withdraw_row.new.row (c.withdraw_row.auto.row ∙ c.row_mut-from.ensures.width) in
    let from = from_few c.args.withdrawal.now.search c.requires.can.outward c.args.withdrawal.now.removed.now slot.node c.row_mut-from.result.now c.args.steps.now c.withdraw_row.new.steps c.withdraw_row.ensures.steps in
    let to = back_few c.args.withdrawal.now.search c.requires.can.outward c.turned-back.result.search c.turned-back.ensures.search c.args.withdrawal.now.removed.now c.turned-back.result.removed.now slot.node c.row_mut-to.result.now c.withdraw_row.new.steps c.withdraw_row-2.new.steps c.turned-back.ensures.removed c.withdraw_row-2.ensures.steps in
    few_rows c.args.steps.now c.withdraw_row.new.steps c.withdraw_row-2.new.steps _ _ (sum_by (withdrawal_steps c.args.withdrawal.now.search.graph marks) (slot ∷ []))
    (from (marks slot.from) (λ k affected. m.from k (subst (λ (cs : List Cell). IsAffectedFrom c.args.withdrawal.now.search.graph c.args.withdrawal.now.removed.now slot.node cs k) c.row_mut-from.ensures.value affected)))
    (to (marks slot.to) (λ k affected. m.to k (subst (λ (cs : List Cell). IsAffectedTo c.args.withdrawal.now.search.graph c.args.withdrawal.now.removed.now slot.node cs k) same affected)))
    (steps_of_one (withdrawal_steps c.args.withdrawal.now.search.graph marks) slot)

pub returns-clause-places : goal.returns-clause-places
returns-clause-places g c = λ marks most all at i l.
    let slot : Slot = c.args.slot.now in
    let m : MarksAffected c.args.withdrawal.now.search.graph c.args.withdrawal.now.removed.now c.args.pool.now marks slot = All-head (MarksAffected c.args.withdrawal.now.search.graph c.args.withdrawal.now.removed.now c.args.pool.now marks) slot [] all in
    let few : AreMarkedAtMost c.args.withdrawal.now.search.graph marks most slot = All-head (AreMarkedAtMost c.args.withdrawal.now.search.graph marks most) slot [] at in
    let same = c.row_mut-to.ensures.value ∙ other_still c.args.pool.now c.args.slot.now c.width-width.ensures.lawful c.requires.has c.withdraw_row.new.row (c.withdraw_row.auto.row ∙ c.row_mut-from.ensures.width) in
    let from = from_places c.args.withdrawal.now.search c.requires.can.outward c.args.withdrawal.now.removed.now slot.node c.row_mut-from.result.now c.args.found.now c.withdraw_row.new.found c.withdraw_row.ensures.places in
    let to = back_places c.args.withdrawal.now.search c.requires.can.outward c.turned-back.result.search c.turned-back.ensures.search c.args.withdrawal.now.removed.now c.turned-back.result.removed.now slot.node c.row_mut-to.result.now c.withdraw_row.new.found c.withdraw_row-2.new.found c.turned-back.ensures.removed c.withdraw_row-2.ensures.places in
    to (marks slot.to) (λ k affected. m.to k (subst (λ (cs : List Cell). IsAffectedTo c.args.withdrawal.now.search.graph c.args.withdrawal.now.removed.now slot.node cs k) same affected)) i (omega (arith, few.to, l))
    ∙ from (marks slot.from) (λ k affected. m.from k (subst (λ (cs : List Cell). IsAffectedFrom c.args.withdrawal.now.search.graph c.args.withdrawal.now.removed.now slot.node cs k) c.row_mut-from.ensures.value affected)) i (omega (arith, few.from, l))

pub returns-clause-cells : goal.returns-clause-cells
returns-clause-cells g c = λ marks all.
    let slot : Slot = c.args.slot.now in
    let m : MarksAffected c.args.withdrawal.now.search.graph c.args.withdrawal.now.removed.now c.args.pool.now marks slot = All-head (MarksAffected c.args.withdrawal.now.search.graph c.args.withdrawal.now.removed.now c.args.pool.now marks) slot [] all in
    let same = c.row_mut-to.ensures.value ∙ other_still c.args.pool.now c.args.slot.now c.width-width.ensures.lawful c.requires.has c.withdraw_row.new.row (c.withdraw_row.auto.row ∙ c.row_mut-from.ensures.width) in
    let from = from_cells c.args.withdrawal.now.search c.requires.can.outward c.args.withdrawal.now.removed.now slot.node c.row_mut-from.result.now c.withdraw_row.new.row c.withdraw_row.ensures.others in
    let to = back_cells c.args.withdrawal.now.search c.requires.can.outward c.turned-back.result.search c.turned-back.ensures.search c.args.withdrawal.now.removed.now c.turned-back.result.removed.now slot.node c.row_mut-to.result.now c.withdraw_row-2.new.row c.turned-back.ensures.removed c.withdraw_row-2.ensures.others in
    All-cons (LeavesCells marks c.args.pool.now _) slot []
    (leaves_both c.args.pool.now c.args.slot.now c.width-width.ensures.lawful c.requires.has c.withdraw_row.new.row (c.withdraw_row.auto.row ∙ c.row_mut-from.ensures.width)
    c.withdraw_row-2.new.row (c.withdraw_row-2.auto.row ∙ c.row_mut-to.ensures.width) marks c.row_mut-from.result.now c.row_mut-to.result.now c.row_mut-from.ensures.value same
    (from (marks slot.from) (λ k affected. m.from k (subst (λ (cs : List Cell). IsAffectedFrom c.args.withdrawal.now.search.graph c.args.withdrawal.now.removed.now slot.node cs k) c.row_mut-from.ensures.value affected)))
    (to (marks slot.to) (λ k affected. m.to k (subst (λ (cs : List Cell). IsAffectedTo c.args.withdrawal.now.search.graph c.args.withdrawal.now.removed.now slot.node cs k) same affected))))
    (All-nil (LeavesCells marks c.args.pool.now _))
