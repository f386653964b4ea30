use Rattle.std.proofs.Common.{◌-◌, ◌/◌, ◌<◌, ◌^◌, length, refl, sym, ◌∙◌, subst, arith, rules}
use Rattle.std.specs.Prelude.{◌≢◌}
use Rattle.frontier.specs.Heap.{nowhere, waiting_keys, heap_node, IsWaiting, IsBehindAbove}
use Rattle.frontier.proofs.Tables.{key_within, ahead_stored, place_moved}
use Rattle.frontier.proofs.Waiting.{waiting_within}
use Rattle.frontier.proofs.Moving.{moved_up, ahead_up}
use Rattle.frontier.proofs.Filling.{filled}
use Rattle.frontier.proofs.heap.sift_up.Goals as goal
use Rattle.frontier.proofs.heap.sift_up.Goals.{else-loop-hole-test, then-loop-hole-test+then-comes_first}

pub comes_first-requires-clause-node : goal.comes_first-requires-clause-node
comes_first-requires-clause-node c =
    let within : c.loop-hole.hole < length c.loop-hole.heap = c.loop-hole.invariant.hole.within in
    key_within c.args.keys.now c.args.places.now (heap_node c.loop-hole.heap ((c.loop-hole.hole - 1) / 2)) (c.loop-hole.invariant.hole.waiting ((c.loop-hole.hole - 1) / 2) (omega arith) (λ e. omega arith))

pub comes_first-requires-clause-other : goal.comes_first-requires-clause-other
comes_first-requires-clause-other c = key_within c.args.keys.now c.args.places.now c.args.node c.requires.waits

pub seat-requires-clause-node : goal.seat-requires-clause-node
seat-requires-clause-node c =
    let within : c.loop-hole.hole < length c.loop-hole.heap = c.loop-hole.invariant.hole.within in
    omega (
      arith,
      c.loop-hole.invariant.hole.room,
      waiting_within (waiting_keys c.args.keys.now c.args.places.now) (heap_node c.loop-hole.heap ((c.loop-hole.hole - 1) / 2)) (c.loop-hole.invariant.hole.waiting ((c.loop-hole.hole - 1) / 2) (omega arith) (λ e. omega arith)),
    )

pub loop-hole-preserved : goal.loop-hole-preserved
loop-hole-preserved c =
    let seen = waiting_keys c.args.keys.now c.args.places.now in
    let h = c.loop-hole.invariant.hole in
    let p = (c.loop-hole.hole - 1) / 2 in
    let positive : 0 < c.loop-hole.hole = omega arith in
    let within : c.loop-hole.hole < length c.loop-hole.heap = h.within in
    let l : (c.loop-hole.hole - 1) / 2 < length c.loop-hole.heap = omega arith in
    let parent : IsWaiting seen (heap_node c.loop-hole.heap p) = h.waiting p l (λ e. omega arith) in
    let few : length c.loop-hole.heap < 2 ^ 32 = search rules in
    let somewhere : c.loop-hole.hole ≢ nowhere = (λ e. omega arith) in
    record {
      keys = rw c.seat.ensures.places
          (place_moved c.args.keys.now c.loop-hole.places (heap_node c.loop-hole.heap p) c.loop-hole.hole (subst (λ k. IsWaiting k (heap_node c.loop-hole.heap p)) (sym c.loop-hole.invariant.keys) parent) somewhere
          ∙ c.loop-hole.invariant.keys);
      hole = rw (c.seat.ensures.heap, c.seat.ensures.places) (moved_up seen c.loop-hole.heap c.loop-hole.places c.loop-hole.hole c.args.node h p l (λ e. omega arith) positive refl);
      ahead = rw c.seat.ensures.heap
          (ahead_up seen c.loop-hole.heap c.loop-hole.places c.loop-hole.hole c.args.node h p l (λ e. omega arith) positive refl
          (ahead_stored c.args.keys.now c.args.places.now c.args.node (heap_node c.loop-hole.heap p) c.requires.waits parent c.if-comes_first.ensures));
    }

pub seat-requires-2-clause-node : goal.seat-requires-2-clause-node
seat-requires-2-clause-node c = omega (arith, c.loop-hole.invariant.hole.room, waiting_within (waiting_keys c.args.keys.now c.args.places.now) c.args.node c.requires.waits)

pub returns-clause-keys : goal.returns-clause-keys
returns-clause-keys c =
    let within : c.loop-hole.hole < length c.loop-hole.heap = c.loop-hole.invariant.hole.within in
    let few : length c.loop-hole.heap < 2 ^ 32 = search rules in
    let somewhere : c.loop-hole.hole ≢ nowhere = (λ e. omega arith) in
    rw c.seat-2.ensures.places
    (place_moved c.args.keys.now c.loop-hole.places c.args.node c.loop-hole.hole (subst (λ k. IsWaiting k c.args.node) (sym c.loop-hole.invariant.keys) c.requires.waits) somewhere
    ∙ c.loop-hole.invariant.keys)

pub returns-clause-heap : goal.returns-clause-heap
returns-clause-heap c =
    let seen = waiting_keys c.args.keys.now c.args.places.now in
    let h = c.loop-hole.invariant.hole in
    let within : c.loop-hole.hole < length c.loop-hole.heap = h.within in
    let behind : IsBehindAbove seen c.loop-hole.heap c.loop-hole.hole c.args.node = elim c.loop-hole-test.branch [
      | else-loop-hole-test w ↦ λ p. absurd (omega arith)
      | then-loop-hole-test+then-comes_first w ↦ λ p.
          ahead_stored c.args.keys.now c.args.places.now (heap_node c.loop-hole.heap ((c.loop-hole.hole - 1) / 2)) c.args.node (h.waiting ((c.loop-hole.hole - 1) / 2) (omega arith) (λ e. omega arith)) c.requires.waits w.if-comes_first.ensures
    ] in
    rw (c.seat-2.ensures.heap, c.seat-2.ensures.places)
    (filled seen c.loop-hole.heap c.loop-hole.places c.loop-hole.hole c.args.node h c.requires.waits behind c.loop-hole.invariant.ahead)
