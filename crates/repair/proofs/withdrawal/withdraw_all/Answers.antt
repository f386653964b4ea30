use Rattle.std.proofs.Common.{◌∷◌, ◌+◌, ◌≤◌, List, length, drop, arith, sym, subst, ◌∙◌}
use Rattle.repair.specs.declared.slot.Slot.{Slot}
use Rattle.repair.specs.Slots.{slots_in, AreOwn}
use Rattle.repair.specs.Withdrawals.{WereRows, WithdrawsRows}
use Rattle.repair.proofs.Found.{next_slot, pass_none, none_left}
use Rattle.repair.proofs.Renewing.{own_head, own_rest}
use Rattle.repair.proofs.Withdrawing.{were_head, were_rest, withdraws_none, withdraws_more}
use Rattle.repair.proofs.Turning.{can_still}
use Rattle.repair.proofs.withdrawal.withdraw_all.Goals as goal
use Rattle.repair.proofs.withdrawal.withdraw_all.Goals.{in-Some, in_default}

pub withdraw_rows-requires-clause-has : goal.withdraw_rows-requires-clause-has
withdraw_rows-requires-clause-has g c =
    let next = next_slot c.loop-entry.entry-index c.args.entries.now c.entry-item.result c.in-Some.slot c.loop-entry-test.true c.entry-item.is c.in-Some.is in
    own_head c.in-Some.slot (slots_in (drop (c.loop-entry.entry-index + 1) c.args.entries.now)) c.loop-entry.pool (subst (AreOwn c.loop-entry.pool) next c.loop-entry.invariant.own)

pub withdraw_rows-requires-clause-before : goal.withdraw_rows-requires-clause-before
withdraw_rows-requires-clause-before g c =
    let next = next_slot c.loop-entry.entry-index c.args.entries.now c.entry-item.result c.in-Some.slot c.loop-entry-test.true c.entry-item.is c.in-Some.is in
    were_head c.args.withdrawal.now.search.graph c.args.withdrawal.now.removed.now c.in-Some.slot (slots_in (drop (c.loop-entry.entry-index + 1) c.args.entries.now)) c.loop-entry.pool
    (subst (WereRows c.args.withdrawal.now.search.graph c.args.withdrawal.now.removed.now c.loop-entry.pool) next c.loop-entry.invariant.before)

pub withdraw_rows-requires-clause-can : goal.withdraw_rows-requires-clause-can
withdraw_rows-requires-clause-can g c = can_still c.args.withdrawal.now.search c.args.pool.now c.loop-entry.pool c.args.queue.now c.loop-entry.queue c.requires.can c.loop-entry.invariant.width c.loop-entry.invariant.queue

pub loop-entry-preserved : goal.loop-entry-preserved
loop-entry-preserved g c =
    let rest : List Slot = slots_in (drop (c.loop-entry.entry-index + 1) c.args.entries.now) in
    elim c.match-entry.branch [
      | in-Some w ↦
          let slot : Slot = w.in-Some.slot in
          let next = next_slot c.loop-entry.entry-index c.args.entries.now c.entry-item.result slot c.loop-entry-test.true c.entry-item.is w.in-Some.is in
          let own : AreOwn c.loop-entry.pool (slot ∷ rest) = subst (AreOwn c.loop-entry.pool) next c.loop-entry.invariant.own in
          rw w.pool-is (rw w.found-is (rw w.queue-is (rw w.steps-is (record {
            own = own_rest slot rest c.loop-entry.pool w.withdraw_rows.new.pool own w.withdraw_rows.ensures.changes;
            before = were_rest c.args.withdrawal.now.search.graph c.args.withdrawal.now.removed.now slot rest c.loop-entry.pool w.withdraw_rows.new.pool own w.withdraw_rows.ensures.changes
                (subst (WereRows c.args.withdrawal.now.search.graph c.args.withdrawal.now.removed.now c.loop-entry.pool) next c.loop-entry.invariant.before);
            goes = λ new last after then. c.loop-entry.invariant.goes new last after (subst (λ (xs : List Slot). WithdrawsRows c.args.withdrawal.now.search.graph c.args.withdrawal.now.removed.now xs c.loop-entry.pool new c.loop-entry.found last c.loop-entry.steps after) (sym next)
                (withdraws_more c.args.withdrawal.now.search.graph c.args.withdrawal.now.removed.now slot rest c.loop-entry.pool w.withdraw_rows.new.pool new c.loop-entry.found w.withdraw_rows.new.found last c.loop-entry.steps w.withdraw_rows.new.steps after own
                w.withdraw_rows.ensures.rows w.withdraw_rows.ensures.changes w.withdraw_rows.ensures.few w.withdraw_rows.ensures.cells w.withdraw_rows.ensures.places then));
            width = w.withdraw_rows.ensures.changes.width ∙ c.loop-entry.invariant.width;
            queue = w.withdraw_rows.ensures.queue ∙ c.loop-entry.invariant.queue;
          }))))
      | in_default w ↦
          let pass = pass_none c.loop-entry.entry-index c.args.entries.now c.entry-item.result c.loop-entry-test.true c.entry-item.is w.in_default.is in
          rw w.pool-is (rw w.found-is (rw w.queue-is (rw w.steps-is (record {
            own = subst (AreOwn c.loop-entry.pool) pass c.loop-entry.invariant.own;
            before = subst (WereRows c.args.withdrawal.now.search.graph c.args.withdrawal.now.removed.now c.loop-entry.pool) pass c.loop-entry.invariant.before;
            goes = λ new last after then. c.loop-entry.invariant.goes new last after (subst (λ (xs : List Slot). WithdrawsRows c.args.withdrawal.now.search.graph c.args.withdrawal.now.removed.now xs c.loop-entry.pool new c.loop-entry.found last c.loop-entry.steps after) (sym pass) then);
            width = c.loop-entry.invariant.width;
            queue = c.loop-entry.invariant.queue;
          }))))
    ]

pub returns-clause-withdraws : goal.returns-clause-withdraws
returns-clause-withdraws g c =
    let past : length c.args.entries.now ≤ c.loop-entry.entry-index = omega (arith, c.loop-entry-test.false) in
    c.loop-entry.invariant.goes c.loop-entry.pool c.loop-entry.found c.loop-entry.steps
    (subst (λ (xs : List Slot). WithdrawsRows c.args.withdrawal.now.search.graph c.args.withdrawal.now.removed.now xs c.loop-entry.pool c.loop-entry.pool c.loop-entry.found c.loop-entry.found c.loop-entry.steps c.loop-entry.steps) (sym (none_left c.loop-entry.entry-index c.args.entries.now past))
    (withdraws_none c.args.withdrawal.now.search.graph c.args.withdrawal.now.removed.now c.loop-entry.pool c.loop-entry.found c.loop-entry.steps))
