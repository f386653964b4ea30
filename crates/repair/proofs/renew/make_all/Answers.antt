use Rattle.std.proofs.Common.{◌∷◌, ◌+◌, ◌<◌, ◌≤◌, List, All, length, drop, arith, sym, subst, ◌∙◌}
use Rattle.std.proofs.lemmas.List.Elements.{All-head, All-tail}
use Rattle.distances.specs.Searched.{nodes}
use Rattle.repair.specs.declared.slot.Slot.{Slot}
use Rattle.repair.specs.Slots.{slots_in, AreOwn}
use Rattle.repair.specs.Renewals.{Renews}
use Rattle.repair.proofs.Found.{next_slot, pass_none, none_left}
use Rattle.repair.proofs.Renewing.{own_head, own_rest, renews_none, renews_more}
use Rattle.repair.proofs.Turning.{can_still}
use Rattle.repair.proofs.renew.make_all.Goals as goal
use Rattle.repair.proofs.renew.make_all.Goals.{in-Some, in_default}

pub make_rows-requires-clause-has : goal.make_rows-requires-clause-has
make_rows-requires-clause-has g c =
    let next = next_slot c.loop-entry.entry-index c.args.entries.now c.entry-item.result c.in-Some.slot c.loop-entry-test.true c.entry-item.is c.in-Some.is in
    own_head c.in-Some.slot (slots_in (drop (c.loop-entry.entry-index + 1) c.args.entries.now)) c.loop-entry.pool (subst (AreOwn c.loop-entry.pool) next c.loop-entry.invariant.own)

pub make_rows-requires-clause-node : goal.make_rows-requires-clause-node
make_rows-requires-clause-node g c =
    let next = next_slot c.loop-entry.entry-index c.args.entries.now c.entry-item.result c.in-Some.slot c.loop-entry-test.true c.entry-item.is c.in-Some.is in
    All-head (λ (slot : Slot). slot.node < nodes c.args.search.now) c.in-Some.slot (slots_in (drop (c.loop-entry.entry-index + 1) c.args.entries.now))
    (subst (λ (xs : List Slot). All (λ slot. slot.node < nodes c.args.search.now) xs) next c.loop-entry.invariant.below)

pub make_rows-requires-clause-can : goal.make_rows-requires-clause-can
make_rows-requires-clause-can g c = can_still c.args.search.now c.args.pool.now c.loop-entry.pool c.args.queue.now c.loop-entry.queue c.requires.can c.loop-entry.invariant.width c.loop-entry.invariant.queue

pub loop-entry-preserved : goal.loop-entry-preserved
loop-entry-preserved g c =
    let rest : List Slot = slots_in (drop (c.loop-entry.entry-index + 1) c.args.entries.now) in
    elim c.match-entry.branch [
      | in-Some w ↦
          let slot : Slot = w.in-Some.slot in
          let next = next_slot c.loop-entry.entry-index c.args.entries.now c.entry-item.result slot c.loop-entry-test.true c.entry-item.is w.in-Some.is in
          let own : AreOwn c.loop-entry.pool (slot ∷ rest) = subst (AreOwn c.loop-entry.pool) next c.loop-entry.invariant.own in
          rw w.pool-is (rw w.queue-is (record {
            own = own_rest slot rest c.loop-entry.pool w.make_rows.new.pool own w.make_rows.ensures.changes;
            below = All-tail (λ (s : Slot). s.node < nodes c.args.search.now) slot rest (subst (λ (xs : List Slot). All (λ s. s.node < nodes c.args.search.now) xs) next c.loop-entry.invariant.below);
            goes = λ new then. c.loop-entry.invariant.goes new (subst (λ (xs : List Slot). Renews c.args.search.now.graph xs c.loop-entry.pool new) (sym next)
                (renews_more c.args.search.now.graph slot rest c.loop-entry.pool w.make_rows.new.pool new own w.make_rows.ensures.rows w.make_rows.ensures.changes then));
            width = w.make_rows.ensures.changes.width ∙ c.loop-entry.invariant.width;
            queue = w.make_rows.ensures.queue ∙ c.loop-entry.invariant.queue;
          }))
      | in_default w ↦
          let pass = pass_none c.loop-entry.entry-index c.args.entries.now c.entry-item.result c.loop-entry-test.true c.entry-item.is w.in_default.is in
          rw w.pool-is (rw w.queue-is (record {
            own = subst (AreOwn c.loop-entry.pool) pass c.loop-entry.invariant.own;
            below = subst (λ (xs : List Slot). All (λ s. s.node < nodes c.args.search.now) xs) pass c.loop-entry.invariant.below;
            goes = λ new then. c.loop-entry.invariant.goes new (subst (λ (xs : List Slot). Renews c.args.search.now.graph xs c.loop-entry.pool new) (sym pass) then);
            width = c.loop-entry.invariant.width;
            queue = c.loop-entry.invariant.queue;
          }))
    ]

pub returns-clause-renews : goal.returns-clause-renews
returns-clause-renews g c =
    let past : length c.args.entries.now ≤ c.loop-entry.entry-index = omega (arith, c.loop-entry-test.false) in
    c.loop-entry.invariant.goes c.loop-entry.pool
    (subst (λ (xs : List Slot). Renews c.args.search.now.graph xs c.loop-entry.pool c.loop-entry.pool) (sym (none_left c.loop-entry.entry-index c.args.entries.now past)) (renews_none c.args.search.now.graph c.loop-entry.pool))
