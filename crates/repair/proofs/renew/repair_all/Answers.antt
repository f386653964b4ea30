use Rattle.std.proofs.Common.{◌∷◌, ◌+◌, ◌≤◌, List, All, length, drop, arith, sym, subst, ◌∙◌}
use Rattle.std.proofs.lemmas.List.Elements.{All-head}
use Rattle.problem_model.specs.Tables.{without}
use Rattle.sync_graph.specs.Graph.{table_of}
use Rattle.distances.specs.Searched.{nodes}
use Rattle.repair.specs.declared.slot.Slot.{Slot}
use Rattle.repair.specs.Slots.{slots_in, AreOwn, IsRowsOf}
use Rattle.repair.specs.Renewals.{Repairs}
use Rattle.repair.proofs.Found.{next_slot, pass_none, none_left}
use Rattle.repair.proofs.Renewing.{own_head, own_rest, rows_rest, repairs_none, repairs_more}
use Rattle.repair.proofs.Turning.{can_still}
use Rattle.repair.proofs.renew.repair_all.Goals as goal
use Rattle.repair.proofs.renew.repair_all.Goals.{in-Some, in_default}

pub repair_rows-requires-clause-has : goal.repair_rows-requires-clause-has
repair_rows-requires-clause-has g c =
    let next = next_slot c.loop-entry.entry-index c.args.entries.now c.entry-item.result c.in-Some.slot c.loop-entry-test.true c.entry-item.is c.in-Some.is in
    own_head c.in-Some.slot (slots_in (drop (c.loop-entry.entry-index + 1) c.args.entries.now)) c.loop-entry.pool (subst (AreOwn c.loop-entry.pool) next c.loop-entry.invariant.own)

pub repair_rows-requires-clause-before : goal.repair_rows-requires-clause-before
repair_rows-requires-clause-before g c =
    let next = next_slot c.loop-entry.entry-index c.args.entries.now c.entry-item.result c.in-Some.slot c.loop-entry-test.true c.entry-item.is c.in-Some.is in
    All-head (IsRowsOf (nodes c.args.search.now) (without (table_of c.args.search.now.graph) c.args.arc) c.loop-entry.pool) c.in-Some.slot (slots_in (drop (c.loop-entry.entry-index + 1) c.args.entries.now))
    (subst (λ (xs : List Slot). All (IsRowsOf (nodes c.args.search.now) (without (table_of c.args.search.now.graph) c.args.arc) c.loop-entry.pool) xs) next c.loop-entry.invariant.before)

pub repair_rows-requires-clause-can : goal.repair_rows-requires-clause-can
repair_rows-requires-clause-can g c = can_still c.args.search.now c.args.pool.now c.loop-entry.pool c.args.queue.now c.loop-entry.queue c.requires.can c.loop-entry.invariant.width c.loop-entry.invariant.queue

pub loop-entry-preserved : goal.loop-entry-preserved
loop-entry-preserved g c =
    let rest : List Slot = slots_in (drop (c.loop-entry.entry-index + 1) c.args.entries.now) in
    elim c.match-entry.branch [
      | in-Some w ↦
          let slot : Slot = w.in-Some.slot in
          let next = next_slot c.loop-entry.entry-index c.args.entries.now c.entry-item.result slot c.loop-entry-test.true c.entry-item.is w.in-Some.is in
          let own : AreOwn c.loop-entry.pool (slot ∷ rest) = subst (AreOwn c.loop-entry.pool) next c.loop-entry.invariant.own in
          rw w.pool-is (rw w.queue-is (rw w.steps-is (record {
            own = own_rest slot rest c.loop-entry.pool w.repair_rows.new.pool own w.repair_rows.ensures.changes;
            before = rows_rest (nodes c.args.search.now) (without (table_of c.args.search.now.graph) c.args.arc) slot rest c.loop-entry.pool w.repair_rows.new.pool own w.repair_rows.ensures.changes
                (subst (λ (xs : List Slot). All (IsRowsOf (nodes c.args.search.now) (without (table_of c.args.search.now.graph) c.args.arc) c.loop-entry.pool) xs) next c.loop-entry.invariant.before);
            goes = λ new after then. c.loop-entry.invariant.goes new after (subst (λ (xs : List Slot). Repairs c.args.search.now.graph xs c.loop-entry.pool new c.loop-entry.steps after) (sym next)
                (repairs_more c.args.search.now.graph slot rest c.loop-entry.pool w.repair_rows.new.pool new c.loop-entry.steps w.repair_rows.new.steps after own
                w.repair_rows.ensures.rows w.repair_rows.ensures.changes w.repair_rows.ensures.few then));
            width = w.repair_rows.ensures.changes.width ∙ c.loop-entry.invariant.width;
            queue = w.repair_rows.ensures.queue ∙ c.loop-entry.invariant.queue;
          })))
      | in_default w ↦
          let pass = pass_none c.loop-entry.entry-index c.args.entries.now c.entry-item.result c.loop-entry-test.true c.entry-item.is w.in_default.is in
          rw w.pool-is (rw w.queue-is (rw w.steps-is (record {
            own = subst (AreOwn c.loop-entry.pool) pass c.loop-entry.invariant.own;
            before = subst (λ (xs : List Slot). All (IsRowsOf (nodes c.args.search.now) (without (table_of c.args.search.now.graph) c.args.arc) c.loop-entry.pool) xs) pass c.loop-entry.invariant.before;
            goes = λ new after then. c.loop-entry.invariant.goes new after (subst (λ (xs : List Slot). Repairs c.args.search.now.graph xs c.loop-entry.pool new c.loop-entry.steps after) (sym pass) then);
            width = c.loop-entry.invariant.width;
            queue = c.loop-entry.invariant.queue;
          })))
    ]

pub returns-clause-repairs : goal.returns-clause-repairs
returns-clause-repairs g c =
    let past : length c.args.entries.now ≤ c.loop-entry.entry-index = omega (arith, c.loop-entry-test.false) in
    c.loop-entry.invariant.goes c.loop-entry.pool c.loop-entry.steps
    (subst (λ (xs : List Slot). Repairs c.args.search.now.graph xs c.loop-entry.pool c.loop-entry.pool c.loop-entry.steps c.loop-entry.steps) (sym (none_left c.loop-entry.entry-index c.args.entries.now past))
    (repairs_none c.args.search.now.graph c.loop-entry.pool c.loop-entry.steps))
