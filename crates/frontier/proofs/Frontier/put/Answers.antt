use Rattle.std.proofs.Common.{◌≡◌, ◌<◌, ◌≤◌, ◌^◌, ◌++◌, ◌∷◌, [], ℕ, ℤ, List, length, set, take, drop, sym, ap, ◌∙◌, subst, arith, rules, to_z, of_z, vec_len}
use Rattle.std.specs.Prelude.{Option, Some, vec_capacity}
use mir.Syntax.{w128}
use Rattle.std.proofs.lemmas.Int.{to_z-of_z}
use Rattle.std.proofs.lemmas.List.{length-set}
use Rattle.frontier.specs.Keys.{IsFreeNode}
use Rattle.frontier.specs.Heap.{waiting_keys, IsHeap, HasHole}
use Rattle.frontier.proofs.Tables.{no_longer, seen_place, key_put, settled, settled_keys, given_back}
use Rattle.frontier.proofs.Root.{fits_more}
use Rattle.frontier.proofs.Waiting.{waits_put, free_within}
use Rattle.frontier.proofs.Filling.{placed_anew}
use Rattle.frontier.proofs.Ends.{more, pushed, pushed_ahead}
use Rattle.frontier.proofs.Frontier.put.Goals as goal

-- a node that does not wait, and the tables before it does
module _ (keys : List ℤ) (heap places : List ℕ) (h : IsHeap (waiting_keys keys places) heap places) (node : ℕ) (seen : List (Option ℤ)) (view : waiting_keys keys places ≡ seen) (asked : IsFreeNode seen node) where
  free : IsFreeNode (waiting_keys keys places) node
  free = subst (λ k. IsFreeNode k node) (sym view) asked

  -- there is room for one more in the heap
  fits_one : length heap < length places
  fits_one = omega (arith, fits_more (waiting_keys keys places) heap places h node free, (no_longer keys places).1)

  has_place : node < length places
  has_place = seen_place keys places node (free_within (waiting_keys keys places) node free)

  put_seen : length places < 2 ^ 32 → (key : ℤ) → waiting_keys (set keys node key) (set places node (length heap)) ≡ set (waiting_keys keys places) node (Some key)
  put_seen few key = (let l : length heap < length places = fits_one in key_put keys places node key (length heap) (λ e. omega arith))

  put_hole : (key : ℤ) → HasHole (set (waiting_keys keys places) node (Some key)) (heap ++ node ∷ []) (set places node (length heap)) (length heap) node
  put_hole key = placed_anew (set (waiting_keys keys places) node (Some key)) (heap ++ node ∷ []) places (length heap) node (pushed (waiting_keys keys places) heap places h node free (Some key)) (length heap)

pub overflow_cast-last : goal.overflow_cast-last
overflow_cast-last c =
    let s = c.self.inside in
    let few : length s.places.items < 2 ^ 32 = c.self.invariant.0 in
    let e : vec_len s.heap ≡ length s.heap.items = s.heap.ok.0 in
    omega (arith, c.len-last.ensures, fits_one s.keys.items s.heap.items s.places.items c.self.invariant.3 c.args.node c.args.self.now c.self.view_is c.requires)

pub index_mut-requires-2 : goal.index_mut-requires-2
index_mut-requires-2 c =
    let s = c.self.inside in
    subst (λ n. c.args.node < n) (sym s.places.ok.0) (has_place s.keys.items s.heap.items s.places.items c.self.invariant.3 c.args.node c.args.self.now c.self.view_is c.requires)

pub push_reserved-requires : goal.push_reserved-requires
push_reserved-requires c =
    let s = c.self.inside in
    let room : length s.places.items ≤ vec_capacity s.heap = c.self.invariant.2 in
    let e : vec_len s.heap ≡ length s.heap.items = s.heap.ok.0 in
    omega (arith, fits_one s.keys.items s.heap.items s.places.items c.self.invariant.3 c.args.node c.args.self.now c.self.view_is c.requires)

last_is : (c : goal.After-deref_mut-2) → c.len-last.result ≡ length c.self.inside.heap.items
last_is c = c.len-last.ensures ∙ c.self.inside.heap.ok.0

keys_are : (c : goal.After-deref_mut-2) → c.deref.result.now ≡ set c.self.inside.keys.items c.args.node c.args.key
keys_are c = c.deref.ensures.value ∙ ap (λ k. set c.self.inside.keys.items c.args.node k) (to_z-of_z w128 c.args.key c.ranges.key)

heap_is : (c : goal.After-deref_mut-2) → c.deref_mut.result.now ≡ c.self.inside.heap.items ++ c.args.node ∷ []
heap_is c = c.deref_mut.ensures.value ∙ c.push_reserved.ensures.items

places_are : (c : goal.After-deref_mut-2) → c.deref_mut-2.result.now ≡ set c.self.inside.places.items c.args.node (length c.self.inside.heap.items)
places_are c = c.deref_mut-2.ensures.value ∙ ap (λ p. set c.self.inside.places.items c.args.node p) (last_is c)

seen_are : (c : goal.After-deref_mut-2) → waiting_keys (set c.self.inside.keys.items c.args.node c.args.key) (set c.self.inside.places.items c.args.node (length c.self.inside.heap.items)) ≡ set (waiting_keys c.self.inside.keys.items c.self.inside.places.items) c.args.node (Some c.args.key)
seen_are c =
    let s = c.self.inside in
    put_seen s.keys.items s.heap.items s.places.items c.self.invariant.3 c.args.node c.args.self.now c.self.view_is c.requires c.self.invariant.0 c.args.key

pub sift_up-requires-clause-few : goal.sift_up-requires-clause-few
sift_up-requires-clause-few c =
    let s = c.self.inside in
    let few : length s.places.items < 2 ^ 32 = c.self.invariant.0 in
    rw (heap_is c) (omega (arith, more s.heap.items c.args.node, fits_one s.keys.items s.heap.items s.places.items c.self.invariant.3 c.args.node c.args.self.now c.self.view_is c.requires))

pub sift_up-requires-clause-waits : goal.sift_up-requires-clause-waits
sift_up-requires-clause-waits c =
    let s = c.self.inside in
    let seen = waiting_keys s.keys.items s.places.items in
    rw (keys_are c, places_are c, seen_are c)
    (c.args.key, waits_put seen c.args.node c.args.key (free_within seen c.args.node (free s.keys.items s.heap.items s.places.items c.self.invariant.3 c.args.node c.args.self.now c.self.view_is c.requires)))

pub sift_up-requires-clause-hole : goal.sift_up-requires-clause-hole
sift_up-requires-clause-hole c =
    let s = c.self.inside in
    rw (keys_are c, heap_is c, places_are c, last_is c, seen_are c)
    (put_hole s.keys.items s.heap.items s.places.items c.self.invariant.3 c.args.node c.args.self.now c.self.view_is c.requires c.args.key)

pub sift_up-requires-clause-ahead : goal.sift_up-requires-clause-ahead
sift_up-requires-clause-ahead c =
    let s = c.self.inside in
    rw (keys_are c, heap_is c, places_are c, last_is c, seen_are c)
    (pushed_ahead (waiting_keys s.keys.items s.places.items) s.heap.items s.places.items c.self.invariant.3 c.args.node (free s.keys.items s.heap.items s.places.items c.self.invariant.3 c.args.node c.args.self.now c.self.view_is c.requires) (Some c.args.key))

pub invariant_of-self : goal.invariant_of-self
invariant_of-self c =
    let s = c.self.inside in
    let keys = set s.keys.items c.args.node (to_z w128 (of_z w128 c.args.key)) in
    let heap = c.sift_up.new.heap in
    let pushed = c.push_reserved.new.self in
    let after = c.sift_up.new.places in
    let before = set s.places.items c.args.node c.len-last.result in
    let few : length s.places.items < 2 ^ 32 = c.self.invariant.0 in
    let long : length s.places.items ≤ length s.keys.items = c.self.invariant.1 in
    let room : length s.places.items ≤ vec_capacity s.heap = c.self.invariant.2 in
    let capacity : vec_capacity c.push_reserved.new.self ≡ vec_capacity s.heap = c.push_reserved.ensures.capacity in
    let size : vec_len s.places ≡ length s.places.items = s.places.ok.0 in
    let nodes : length heap ≡ c.push_reserved.new.self.len = search rules in
    let places : length after ≡ s.places.len = search rules in
    let count : length after ≡ length s.places.items = places ∙ size in
    let same : length keys ≡ length s.keys.items = length-set s.keys.items c.args.node (to_z w128 (of_z w128 c.args.key)) in
    subst (λ p. (length p < 2 ^ 32) × (length p ≤ length keys) × (length p ≤ vec_capacity c.push_reserved.new.self) × IsHeap (waiting_keys keys p) (take pushed.len (heap ++ drop (length heap) pushed.items)) p)
    (sym (given_back s.places.len after before places))
    (omega arith, omega arith, omega arith, subst (λ h. IsHeap (waiting_keys keys after) h after) (sym (given_back pushed.len heap pushed.items nodes)) (settled keys c.deref.result.now heap after c.deref_mut-2.result.now c.deref.ensures.value c.sift_up.ensures.keys c.sift_up.ensures.heap))

pub returns : goal.returns
returns c =
    let s = c.self.inside in
    let key = to_z w128 (of_z w128 c.args.key) in
    let keys = set s.keys.items c.args.node key in
    let after = c.sift_up.new.places in
    let before = set s.places.items c.args.node c.len-last.result in
    let places : length after ≡ s.places.len = search rules in
    ap (waiting_keys keys) (given_back s.places.len after before places)
    ∙ settled_keys keys c.deref.result.now after c.deref_mut-2.result.now before c.deref.ensures.value c.deref_mut-2.ensures.value c.sift_up.ensures.keys
    ∙ ap (λ l. waiting_keys keys (set s.places.items c.args.node l)) (c.len-last.ensures ∙ s.heap.ok.0)
    ∙ put_seen s.keys.items s.heap.items s.places.items c.self.invariant.3 c.args.node c.args.self.now c.self.view_is c.requires c.self.invariant.0 key
    ∙ ap (λ k. set (waiting_keys s.keys.items s.places.items) c.args.node (Some k)) (to_z-of_z w128 c.args.key c.ranges.key)
    ∙ ap (λ k. set k c.args.node (Some c.args.key)) c.self.view_is
