-- Room for more nodes, none of which waits.
use Rattle.std.proofs.Common.{◌≡◌, ℕ, zero, suc, ◌+◌, ◌<◌, ◌≤◌, List, [], ◌∷◌, ◌++◌, length, get_or, ap, sym, ◌∙◌, subst, arith, ℤ, length-append}
use Rattle.std.specs.Prelude.{pos, Option, Some, None, replicate, unwrap_or}
use Rattle.std.proofs.lemmas.List.{get_or_append_left, get_or-replicate, length-replicate}
use Rattle.std.proofs.lemmas.Option.{slice_get-get_or, get_or_from_slice_get}
use Rattle.frontier.specs.Keys.{Waits, IsFirstKey}
use Rattle.frontier.specs.Heap.{heap_node, heap_place, above, waiting_key, IsWaiting, IsAhead, IsHeap}
use Rattle.frontier.proofs.Waiting.{waits_within, waiting_within}

none_beyond : (free : List (Option ℤ)) (node : ℕ) (key : ℤ) → get_or free node None ≡ None → Waits free node key → ⊥
none_beyond free node key a w =
    let b : get_or free node None ≡ Some key = get_or_from_slice_get free node (Some key) None w in
    cc

free_beyond : (more node : ℕ) (key : ℤ) → Waits (replicate more None) node key → ◌≡◌ {A = Option ℤ} (get_or {A = Option ℤ} (replicate {A = Option ℤ} more None) node None) None
free_beyond more node key w =
    get_or-replicate {A = Option ℤ} more node None None (omega (arith, waits_within (replicate more None) node key w, length-replicate {A = Option ℤ} more None))

narrow : (keys : List (Option ℤ)) (more node : ℕ) (key : ℤ) → Waits (keys ++ replicate more None) node key → Waits keys node key
narrow [] more node key w = absurd (none_beyond (replicate more None) node key (free_beyond more node key w) w)
narrow (x ∷ keys) more zero key w = w
narrow (x ∷ keys) more (suc node) key w = narrow keys more node key w

module _ (keys : List (Option ℤ)) (more : ℕ) where
  abbrev wide : List (Option ℤ)
  wide = keys ++ replicate more None

  wide_at : (node : ℕ) → node < length keys → get_or wide node None ≡ get_or keys node None
  wide_at node l = get_or_append_left keys (replicate more None) None node l

  pub waits_wide : (node : ℕ) (key : ℤ) → Waits keys node key → Waits wide node key
  waits_wide node key w =
      slice_get-get_or wide node None (omega (arith, waits_within keys node key w, length-append keys (replicate more None)))
      ∙ ap (λ v. Some v) (wide_at node (waits_within keys node key w) ∙ get_or_from_slice_get keys node (Some key) None w)

  pub waits_narrow : (node : ℕ) (key : ℤ) → Waits wide node key → Waits keys node key
  waits_narrow node key w = narrow keys more node key w

  pub key_wide : (node : ℕ) → node < length keys → waiting_key wide node ≡ waiting_key keys node
  key_wide node l = ap (λ v. unwrap_or v (pos 0)) (wide_at node l)

  pub ahead_wide : (a b : ℕ) → a < length keys → b < length keys → IsAhead keys a b → IsAhead wide a b
  ahead_wide a b la lb h =
      subst (λ k. IsFirstKey k a (waiting_key wide b) b) (sym (key_wide a la))
      (subst (λ k. IsFirstKey (waiting_key keys a) a k b) (sym (key_wide b lb)) h)

-- the same nodes wait, and have the places that they had
module _ (keys : List (Option ℤ)) (heap places : List ℕ) (h : IsHeap keys heap places) (places' : List ℕ) (same : (node : ℕ) → IsWaiting keys node → heap_place places' node ≡ heap_place places node) where
  pub replaced : length keys ≤ length places' → IsHeap keys heap places'
  replaced room = record {
    room = room;
    ordered = h.ordered;
    waiting = h.waiting;
    placed = λ place l. same (heap_node heap place) (h.waiting place l) ∙ h.placed place l;
    held = λ node key w. subst (λ p. (p < length heap) × (heap_node heap p ≡ node)) (sym (same node (key, w))) (h.held node key w);
  }

pub widened : (keys : List (Option ℤ)) (heap places : List ℕ) (more : ℕ) → IsHeap keys heap places → length keys + more ≤ length places → IsHeap (keys ++ replicate more None) heap places
widened keys heap places more h room = record {
  room = omega (arith, length-append keys (replicate more None), length-replicate {A = Option ℤ} more None);
  ordered = λ place l a.
      let over : above place < length heap = omega arith in
      ahead_wide keys more (heap_node heap (above place)) (heap_node heap place) (waiting_within keys (heap_node heap (above place)) (h.waiting (above place) over)) (waiting_within keys (heap_node heap place) (h.waiting place l)) (h.ordered place l a);
  waiting = λ place l. let w : IsWaiting keys (heap_node heap place) = h.waiting place l in (w.0, waits_wide keys more (heap_node heap place) w.0 w.1);
  placed = h.placed;
  held = λ node key w. h.held node key (waits_narrow keys more node key w);
}
