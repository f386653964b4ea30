use Rattle.std.proofs.Common.{◌<◌, ◌^◌, length, sym, ◌∙◌, subst, arith, rules}
use Rattle.std.specs.Prelude.{◌≢◌}
use Rattle.frontier.specs.Heap.{nowhere, waiting_keys, heap_node, IsWaiting, IsAheadBelow}
use Rattle.frontier.proofs.Tables.{key_within, below_apart, ahead_stored, first_stored, place_moved}
use Rattle.frontier.proofs.Waiting.{waiting_within}
use Rattle.frontier.proofs.Moving.{moved_down, behind_down, ahead_of_both}
use Rattle.frontier.proofs.Filling.{filled}
use Rattle.frontier.proofs.heap.sift_down.Goals as goal
use Rattle.frontier.proofs.heap.sift_down.Goals.{in-Some+then-comes_first, in_default}

pub first_below-requires-clause-nodes : goal.first_below-requires-clause-nodes
first_below-requires-clause-nodes c k l n = key_within c.args.keys.now c.args.places.now (heap_node c.loop-below.heap k) (c.loop-below.invariant.hole.waiting k l n)

pub comes_first-requires-clause-node : goal.comes_first-requires-clause-node
comes_first-requires-clause-node c = key_within c.args.keys.now c.args.places.now c.args.node c.requires.waits

pub comes_first-requires-clause-other : goal.comes_first-requires-clause-other
comes_first-requires-clause-other c =
    key_within c.args.keys.now c.args.places.now (heap_node c.loop-below.heap c.in-Some.below)
    (c.loop-below.invariant.hole.waiting c.in-Some.below c.in-Some.ensures.within (below_apart c.in-Some.below c.loop-below.hole c.in-Some.ensures.below))

pub loop-below-preserved : goal.loop-below-preserved
loop-below-preserved c =
    let seen = waiting_keys c.args.keys.now c.args.places.now in
    let h = c.loop-below.invariant.hole in
    let apart : c.in-Some.below ≢ c.loop-below.hole = below_apart c.in-Some.below c.loop-below.hole c.in-Some.ensures.below in
    let child : IsWaiting seen (heap_node c.loop-below.heap c.in-Some.below) = h.waiting c.in-Some.below c.in-Some.ensures.within apart in
    let first = first_stored c.args.keys.now c.args.places.now c.loop-below.heap c.loop-below.places c.loop-below.hole c.args.node h c.in-Some.below c.in-Some.ensures.within c.in-Some.ensures.below c.in-Some.ensures.first in
    let within : c.loop-below.hole < length c.loop-below.heap = h.within in
    let few : length c.loop-below.heap < 2 ^ 32 = search rules in
    let somewhere : c.loop-below.hole ≢ nowhere = (λ e. omega arith) in
    record {
      keys = rw c.seat.ensures.places
          (place_moved c.args.keys.now c.loop-below.places (heap_node c.loop-below.heap c.in-Some.below) c.loop-below.hole (subst (λ k. IsWaiting k (heap_node c.loop-below.heap c.in-Some.below)) (sym c.loop-below.invariant.keys) child) somewhere
          ∙ c.loop-below.invariant.keys);
      hole = rw (c.seat.ensures.heap, c.seat.ensures.places) (moved_down seen c.loop-below.heap c.loop-below.places c.loop-below.hole c.args.node h c.in-Some.below c.in-Some.ensures.within apart c.in-Some.ensures.below first);
      behind = rw c.seat.ensures.heap
          (behind_down seen c.loop-below.heap c.loop-below.places c.loop-below.hole c.args.node h c.in-Some.below c.in-Some.ensures.within apart c.in-Some.ensures.below first
          (ahead_stored c.args.keys.now c.args.places.now (heap_node c.loop-below.heap c.in-Some.below) c.args.node child c.requires.waits c.if-comes_first.ensures));
    }

pub seat-requires-2-clause-node : goal.seat-requires-2-clause-node
seat-requires-2-clause-node c = omega (arith, c.loop-below.invariant.hole.room, waiting_within (waiting_keys c.args.keys.now c.args.places.now) c.args.node c.requires.waits)

pub returns-clause-keys : goal.returns-clause-keys
returns-clause-keys c =
    let within : c.loop-below.hole < length c.loop-below.heap = c.loop-below.invariant.hole.within in
    let few : length c.loop-below.heap < 2 ^ 32 = search rules in
    let somewhere : c.loop-below.hole ≢ nowhere = (λ e. omega arith) in
    rw c.seat-2.ensures.places
    (place_moved c.args.keys.now c.loop-below.places c.args.node c.loop-below.hole (subst (λ k. IsWaiting k c.args.node) (sym c.loop-below.invariant.keys) c.requires.waits) somewhere
    ∙ c.loop-below.invariant.keys)

pub returns-clause-heap : goal.returns-clause-heap
returns-clause-heap c =
    let seen = waiting_keys c.args.keys.now c.args.places.now in
    let h = c.loop-below.invariant.hole in
    let ahead : IsAheadBelow seen c.loop-below.heap c.loop-below.hole c.args.node = elim c.match-first_below.branch [
      | in-Some+then-comes_first w ↦
          let child : IsWaiting seen (heap_node c.loop-below.heap w.in-Some.below) = h.waiting w.in-Some.below w.in-Some.ensures.within (below_apart w.in-Some.below c.loop-below.hole w.in-Some.ensures.below) in
          ahead_of_both seen c.loop-below.heap c.loop-below.hole c.args.node w.in-Some.below
          (first_stored c.args.keys.now c.args.places.now c.loop-below.heap c.loop-below.places c.loop-below.hole c.args.node h w.in-Some.below w.in-Some.ensures.within w.in-Some.ensures.below w.in-Some.ensures.first)
          (ahead_stored c.args.keys.now c.args.places.now c.args.node (heap_node c.loop-below.heap w.in-Some.below) c.requires.waits child w.if-comes_first.ensures)
      | in_default w ↦ λ k l b. absurd (w.in_default.ensures.none k l b)
    ] in
    rw (c.seat-2.ensures.heap, c.seat-2.ensures.places)
    (filled seen c.loop-below.heap c.loop-below.places c.loop-below.hole c.args.node h c.requires.waits c.loop-below.invariant.behind ahead)
