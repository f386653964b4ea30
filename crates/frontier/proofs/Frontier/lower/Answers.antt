use Rattle.std.proofs.Common.{◌≡◌, ◌<◌, ◌≤◌, ◌^◌, ◌++◌, length, set, take, drop, sym, ap, ◌∙◌, subst, arith, rules, to_z, of_z, vec_len}
use Rattle.std.specs.Prelude.{Some, vec_capacity}
use mir.Syntax.{w128}
use Rattle.std.proofs.lemmas.Int.{to_z-of_z}
use Rattle.std.proofs.lemmas.List.{get_or_read, length-set}
use Rattle.frontier.specs.Keys.{Waits}
use Rattle.frontier.specs.Heap.{waiting_keys, heap_place, IsHeap}
use Rattle.frontier.proofs.Tables.{no_longer, place_within, key_changed, settled, settled_keys, given_back}
use Rattle.frontier.proofs.Root.{fits}
use Rattle.frontier.proofs.Waiting.{waits_within, waits_put}
use Rattle.frontier.proofs.Lowering.{lowered, lowered_below}
use Rattle.frontier.proofs.Frontier.lower.Goals as goal

before_waits : (c : goal.After-deref_mut-2) → Waits (waiting_keys c.self.inside.keys.items c.self.inside.places.items) c.args.node c.requires.0
before_waits c = subst (λ k. Waits k c.args.node c.requires.0) (sym c.self.view_is) c.requires.1

keys_are : (c : goal.After-deref_mut-2) → c.deref.result.now ≡ set c.self.inside.keys.items c.args.node c.args.key
keys_are c = c.deref.ensures.value ∙ ap (λ k. set c.self.inside.keys.items c.args.node k) (to_z-of_z w128 c.args.key c.ranges.key)

seen_are : (c : goal.After-deref_mut-2) → waiting_keys (set c.self.inside.keys.items c.args.node c.args.key) c.self.inside.places.items ≡ set (waiting_keys c.self.inside.keys.items c.self.inside.places.items) c.args.node (Some c.args.key)
seen_are c = key_changed c.self.inside.keys.items c.self.inside.places.items c.args.node c.args.key (c.requires.0, before_waits c)

place_is : (c : goal.After-deref_mut-2) → c.index.result.now ≡ heap_place c.self.inside.places.items c.args.node
place_is c =
    get_or_read c.self.inside.places.items c.args.node c.index.result.now (place_within c.self.inside.keys.items c.self.inside.places.items c.args.node (c.requires.0, before_waits c)) c.index.ensures 0

pub sift_up-requires-clause-few : goal.sift_up-requires-clause-few
sift_up-requires-clause-few c =
    let s = c.self.inside in
    let few : length s.places.items < 2 ^ 32 = c.self.invariant.0 in
    rw c.deref_mut.ensures.value (omega (arith, fits (waiting_keys s.keys.items s.places.items) s.heap.items s.places.items c.self.invariant.3, (no_longer s.keys.items s.places.items).1))

pub sift_up-requires-clause-waits : goal.sift_up-requires-clause-waits
sift_up-requires-clause-waits c =
    let s = c.self.inside in
    rw (keys_are c, c.deref_mut-2.ensures.value, seen_are c)
    (c.args.key, waits_put (waiting_keys s.keys.items s.places.items) c.args.node c.args.key (waits_within (waiting_keys s.keys.items s.places.items) c.args.node c.requires.0 (before_waits c)))

pub sift_up-requires-clause-hole : goal.sift_up-requires-clause-hole
sift_up-requires-clause-hole c =
    let s = c.self.inside in
    rw (keys_are c, c.deref_mut.ensures.value, c.deref_mut-2.ensures.value, place_is c, seen_are c)
    (lowered (waiting_keys s.keys.items s.places.items) s.heap.items s.places.items c.self.invariant.3 c.args.node c.requires.0 c.args.key (before_waits c) c.requires.2)

pub sift_up-requires-clause-ahead : goal.sift_up-requires-clause-ahead
sift_up-requires-clause-ahead c =
    let s = c.self.inside in
    rw (keys_are c, c.deref_mut.ensures.value, c.deref_mut-2.ensures.value, place_is c, seen_are c)
    (lowered_below (waiting_keys s.keys.items s.places.items) s.heap.items s.places.items c.self.invariant.3 c.args.node c.requires.0 c.args.key (before_waits c) c.requires.2)

pub invariant_of-self : goal.invariant_of-self
invariant_of-self c =
    let s = c.self.inside in
    let keys = set s.keys.items c.args.node (to_z w128 (of_z w128 c.args.key)) in
    let heap = c.sift_up.new.heap in
    let after = c.sift_up.new.places in
    let few : length s.places.items < 2 ^ 32 = c.self.invariant.0 in
    let long : length s.places.items ≤ length s.keys.items = c.self.invariant.1 in
    let room : length s.places.items ≤ vec_capacity s.heap = c.self.invariant.2 in
    let size : vec_len s.places ≡ length s.places.items = s.places.ok.0 in
    let nodes : length heap ≡ s.heap.len = search rules in
    let places : length after ≡ s.places.len = search rules in
    let count : length after ≡ length s.places.items = places ∙ size in
    let same : length keys ≡ length s.keys.items = length-set s.keys.items c.args.node (to_z w128 (of_z w128 c.args.key)) in
    subst (λ p. (length p < 2 ^ 32) × (length p ≤ length keys) × (length p ≤ vec_capacity s.heap) × IsHeap (waiting_keys keys p) (take s.heap.len (heap ++ drop (length heap) s.heap.items)) p)
    (sym (given_back s.places.len after s.places.items places))
    (omega arith, omega arith, omega arith, subst (λ h. IsHeap (waiting_keys keys after) h after) (sym (given_back s.heap.len heap s.heap.items nodes)) (settled keys c.deref.result.now heap after c.deref_mut-2.result.now c.deref.ensures.value c.sift_up.ensures.keys c.sift_up.ensures.heap))

pub returns : goal.returns
returns c =
    let s = c.self.inside in
    let key = to_z w128 (of_z w128 c.args.key) in
    let keys = set s.keys.items c.args.node key in
    let after = c.sift_up.new.places in
    let places : length after ≡ s.places.len = search rules in
    let w : Waits (waiting_keys s.keys.items s.places.items) c.args.node c.requires.0 = subst (λ k. Waits k c.args.node c.requires.0) (sym c.self.view_is) c.requires.1 in
    ap (waiting_keys keys) (given_back s.places.len after s.places.items places)
    ∙ settled_keys keys c.deref.result.now after c.deref_mut-2.result.now s.places.items c.deref.ensures.value c.deref_mut-2.ensures.value c.sift_up.ensures.keys
    ∙ key_changed s.keys.items s.places.items c.args.node key (c.requires.0, w)
    ∙ ap (λ k. set (waiting_keys s.keys.items s.places.items) c.args.node (Some k)) (to_z-of_z w128 c.args.key c.ranges.key)
    ∙ ap (λ k. set k c.args.node (Some c.args.key)) c.self.view_is
