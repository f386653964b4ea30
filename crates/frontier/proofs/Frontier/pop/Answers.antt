use Rattle.std.proofs.Common.{◌≡◌, ℕ, ◌<◌, ◌≤◌, ◌^◌, length, set, get_or, sym, ap, ◌∙◌, subst, arith, ℤ, pos, List, to_z, of_z, rules, vec_len}
use Rattle.std.specs.Prelude.{Option, Some, None, slice_get, vec_capacity}
use mir.Syntax.{w128}
use mir.Val.{SFits}
use Rattle.std.proofs.lemmas.Int.{to_z-of_z}
use Rattle.std.proofs.lemmas.List.{get_or_read}
use Rattle.std.proofs.lemmas.Option.{slice_get_within, get_or_from_slice_get}
use Rattle.frontier.specs.Keys.{IsFreeNode, IsLeastEntry}
use Rattle.frontier.specs.Heap.{nowhere, waiting_keys, heap_node, waiting_key, IsWaiting, IsHeap, HasHole}
use Rattle.frontier.proofs.Tables.{no_longer, key_within, place_within, key_stored, place_lost, settled, settled_keys, given_back}
use Rattle.frontier.proofs.Waiting.{waiting_within, free_taken}
use Rattle.frontier.proofs.Filling.{opened, placed_anew}
use Rattle.frontier.proofs.Root.{fits, root_least}
use Rattle.frontier.proofs.Frontier.pop.Goals as goal

-- what stands first in a heap that is read there
module _ (keys : List ℤ) (heap places : List ℕ) (h : IsHeap (waiting_keys keys places) heap places) (read : List ℕ) (node : ℕ) (same : read ≡ heap) (first : Some node ≡ slice_get read 0) where
  abbrev seen : List (Option ℤ)
  seen = waiting_keys keys places

  here : slice_get heap 0 ≡ Some node
  here = subst (λ x. slice_get x 0 ≡ Some node) same (sym first)

  root_is : heap_node heap 0 ≡ node
  root_is = get_or_from_slice_get heap 0 node 0 here

  some : 0 < length heap
  some = slice_get_within heap 0 node here

  root_waits : IsWaiting seen node
  root_waits = subst (IsWaiting seen) root_is (h.waiting 0 some)

  lost : waiting_keys keys (set places node nowhere) ≡ set seen node None
  lost = place_lost keys places node

  root_free : IsFreeNode (waiting_keys keys (set places node nowhere)) (heap_node heap 0)
  root_free =
      subst (λ k. IsFreeNode k (heap_node heap 0)) (sym lost)
      (subst (IsFreeNode (set seen node None)) (sym root_is) (free_taken seen node (waiting_within seen node root_waits)))

  root_open : HasHole (waiting_keys keys (set places node nowhere)) heap (set places node nowhere) 0 (heap_node heap 0)
  root_open =
      subst (λ k. HasHole k heap (set places node nowhere) 0 (heap_node heap 0)) (sym lost)
      (subst (λ n. HasHole (set seen n None) heap (set places n nowhere) 0 (heap_node heap 0)) root_is
      (placed_anew (set seen (heap_node heap 0) None) heap places 0 (heap_node heap 0) (opened seen heap places h 0 some None) nowhere))

  root_entry : (key : ℤ) → key ≡ get_or keys node (pos 0) → IsLeastEntry seen node key
  root_entry key e =
      subst (IsLeastEntry seen node) (key_stored keys places node root_waits ∙ sym e)
      (subst (λ n. IsLeastEntry seen n (waiting_key seen n)) root_is (root_least seen heap places h some))

pub index-key-requires : goal.index-key-requires
index-key-requires g c =
    let s = c.self.inside in
    subst (λ n. c.in_ok-node.field-0.now < n) (sym s.keys.ok.0)
    (key_within s.keys.items s.places.items c.in_ok-node.field-0.now (root_waits s.keys.items s.heap.items s.places.items c.self.invariant.3 c.deref.result.now c.in_ok-node.field-0.now c.deref.ensures.value c.in_ok-node.ensures.value))

pub index_mut-requires : goal.index_mut-requires
index_mut-requires g c =
    let s = c.self.inside in
    subst (λ n. c.in_ok-node.field-0.now < n) (sym s.places.ok.0)
    (place_within s.keys.items s.places.items c.in_ok-node.field-0.now (root_waits s.keys.items s.heap.items s.places.items c.self.invariant.3 c.deref.result.now c.in_ok-node.field-0.now c.deref.ensures.value c.in_ok-node.ensures.value))

pub remove_root-requires-clause-few : goal.remove_root-requires-clause-few
remove_root-requires-clause-few g c =
    let s = c.self.inside in
    let few : length s.places.items < 2 ^ 32 = c.self.invariant.0 in
    omega (arith, fits (waiting_keys s.keys.items s.places.items) s.heap.items s.places.items c.self.invariant.3, (no_longer s.keys.items s.places.items).1)

pub remove_root-requires-clause-gone : goal.remove_root-requires-clause-gone
remove_root-requires-clause-gone g c =
    let s = c.self.inside in
    rw (c.deref-2.ensures.value, c.deref_mut.ensures.value)
    (root_free s.keys.items s.heap.items s.places.items c.self.invariant.3 c.deref.result.now c.in_ok-node.field-0.now c.deref.ensures.value c.in_ok-node.ensures.value)

pub remove_root-requires-clause-hole : goal.remove_root-requires-clause-hole
remove_root-requires-clause-hole g c =
    let s = c.self.inside in
    rw (c.deref-2.ensures.value, c.deref_mut.ensures.value)
    (root_open s.keys.items s.heap.items s.places.items c.self.invariant.3 c.deref.result.now c.in_ok-node.field-0.now c.deref.ensures.value c.in_ok-node.ensures.value)

pub invariant_of-self : goal.invariant_of-self
invariant_of-self g c =
    let s = c.self.inside in
    let after = c.remove_root.new.places in
    let few : length s.places.items < 2 ^ 32 = c.self.invariant.0 in
    let long : length s.places.items ≤ length s.keys.items = c.self.invariant.1 in
    let room : length s.places.items ≤ vec_capacity s.heap = c.self.invariant.2 in
    let capacity : vec_capacity c.remove_root.new.heap ≡ vec_capacity s.heap = c.remove_root.ensures.capacity in
    let size : vec_len s.places ≡ length s.places.items = s.places.ok.0 in
    let places : length after ≡ s.places.len = search rules in
    let count : length after ≡ length s.places.items = places ∙ size in
    subst (λ p. (length p < 2 ^ 32) × (length p ≤ length s.keys.items) × (length p ≤ vec_capacity c.remove_root.new.heap) × IsHeap (waiting_keys s.keys.items p) c.remove_root.new.heap.items p)
    (sym (given_back s.places.len after (set s.places.items c.in_ok-node.field-0.now nowhere) places))
    (omega arith, omega arith, omega arith, settled s.keys.items c.deref-2.result.now c.remove_root.new.heap.items after c.deref_mut.result.now c.deref-2.ensures.value c.remove_root.ensures.keys c.remove_root.ensures.heap)

pub returns-clause-least : goal.returns-clause-least
returns-clause-least g c =
    let s = c.self.inside in
    let node = c.in_ok-node.field-0.now in
    let w : IsWaiting (waiting_keys s.keys.items s.places.items) c.in_ok-node.field-0.now = root_waits s.keys.items s.heap.items s.places.items c.self.invariant.3 c.deref.result.now c.in_ok-node.field-0.now c.deref.ensures.value c.in_ok-node.ensures.value in
    let fits : SFits w128 c.index-key.result.now = search rules in
    subst (λ k. IsLeastEntry k c.in_ok-node.field-0.now (to_z w128 (of_z w128 c.index-key.result.now))) c.self.view_is
    (root_entry s.keys.items s.heap.items s.places.items c.self.invariant.3 c.deref.result.now c.in_ok-node.field-0.now c.deref.ensures.value c.in_ok-node.ensures.value (to_z w128 (of_z w128 c.index-key.result.now))
    (to_z-of_z w128 c.index-key.result.now fits ∙ get_or_read s.keys.items c.in_ok-node.field-0.now c.index-key.result.now (key_within s.keys.items s.places.items c.in_ok-node.field-0.now w) c.index-key.ensures (pos 0)))

pub returns-clause-taken : goal.returns-clause-taken
returns-clause-taken g c =
    let s = c.self.inside in
    let node = c.in_ok-node.field-0.now in
    let after = c.remove_root.new.places in
    let before = set s.places.items c.in_ok-node.field-0.now nowhere in
    let places : length after ≡ s.places.len = search rules in
    ap (waiting_keys s.keys.items) (given_back s.places.len after before places)
    ∙ settled_keys s.keys.items c.deref-2.result.now after c.deref_mut.result.now before c.deref-2.ensures.value c.deref_mut.ensures.value c.remove_root.ensures.keys
    ∙ place_lost s.keys.items s.places.items node
    ∙ ap (λ k. set k c.in_ok-node.field-0.now None) c.self.view_is
