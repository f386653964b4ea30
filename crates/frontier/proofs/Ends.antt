-- The last place of a heap: a node is added there, or taken away.
use Rattle.std.proofs.Common.{◌≡◌, ℕ, ◌+◌, ◌<◌, List, [], ◌∷◌, ◌++◌, length, set, ap, sym, ◌∙◌, subst, arith, ℤ, length-append, get_or-set_other}
use Rattle.std.specs.Prelude.{◌≢◌, Option, None}
use Rattle.std.proofs.lemmas.Grind.{common_steps}
use Rattle.std.proofs.lemmas.List.{length-set}
use Rattle.frontier.specs.Keys.{Waits, IsFreeNode}
use Rattle.frontier.specs.Heap.{nowhere, waiting_keys, heap_node, heap_place, above, IsChildPlace, IsWaiting, IsAhead, IsHeap, HasHole, IsAheadBelow}
use Rattle.frontier.proofs.Waiting.{waits_before, waiting_after, ahead_after, free_apart, taken_apart}
use Rattle.frontier.proofs.Moving.{ahead_by}
use Rattle.frontier.proofs.Tables.{place_lost}
use Rattle.frontier.proofs.Widening.{replaced}
use Rattle.frontier.proofs.Filling.{nodes_differ}

-- a list and one more
module _ (heap : List ℕ) (node : ℕ) where
  pub more : length (heap ++ node ∷ []) ≡ length heap + 1
  more = length-append heap (node ∷ [])

  pub at_front : (place : ℕ) → place < length heap → heap_node (heap ++ node ∷ []) place ≡ heap_node heap place
  at_front place l = grind (arith, common_steps)

  pub at_end : heap_node (heap ++ node ∷ []) (length heap) ≡ node
  at_end = grind (arith, common_steps)

-- a node that did not wait is put behind all others
module _ (keys : List (Option ℤ)) (heap places : List ℕ) (h : IsHeap keys heap places) (node : ℕ) (free : IsFreeNode keys node) (v : Option ℤ) where
  abbrev keys' : List (Option ℤ)
  keys' = set keys node v

  abbrev heap' : List ℕ
  heap' = heap ++ node ∷ []

  front : (place : ℕ) → place < length heap' → place ≢ length heap → place < length heap
  front place l n = omega (arith, more heap node)

  was_apart : (place : ℕ) → place < length heap → heap_node heap place ≢ node
  was_apart place l = free_apart keys node (heap_node heap place) free (h.waiting place l)

  ordered' : (place : ℕ) → place < length heap' → 0 < place → place ≢ length heap → above place ≢ length heap → IsAhead keys' (heap_node heap' (above place)) (heap_node heap' place)
  ordered' place l a n m =
      let l2 : place < length heap = front place l n in
      let l3 : above place < length heap = omega arith in
      ahead_by keys' (heap_node heap (above place)) (heap_node heap place) (heap_node heap' (above place)) (heap_node heap' place) (at_front heap node (above place) l3) (at_front heap node place l2)
      (ahead_after keys node v (heap_node heap (above place)) (heap_node heap place) (was_apart (above place) l3) (was_apart place l2) (h.ordered place l2 a))

  none_below : (place : ℕ) → place < length heap' → IsChildPlace place (length heap) → ⊥
  none_below place l b = let e : above place ≡ length heap = b.1 in let p : 0 < place = b.0 in omega (arith, more heap node)

  held' : (other : ℕ) (key : ℤ) → Waits keys' other key → other ≢ node → (heap_place places other < length heap') × (heap_place places other ≢ length heap) × (heap_node heap' (heap_place places other) ≡ other)
  held' other key w n =
      let old : (heap_place places other < length heap) × (heap_node heap (heap_place places other) ≡ other) = h.held other key (waits_before keys node v other key n w) in
      let l : heap_place places other < length heap = old.0 in
      (omega (arith, more heap node), (λ q. omega arith), at_front heap node (heap_place places other) l ∙ old.1)

  pub pushed : HasHole keys' heap' places (length heap) node
  pushed = record {
    room = omega (arith, h.room, length-set keys node v);
    within = omega (arith, more heap node);
    ordered = ordered';
    across = λ place l b p. absurd (none_below place l b);
    waiting = λ place l n. subst (IsWaiting keys') (sym (at_front heap node place (front place l n))) (waiting_after keys node v (heap_node heap place) (was_apart place (front place l n)) (h.waiting place (front place l n)));
    placed = λ place l n. ap (heap_place places) (at_front heap node place (front place l n)) ∙ h.placed place (front place l n);
    others = λ place l n e. was_apart place (front place l n) (sym (at_front heap node place (front place l n)) ∙ e);
    held = held';
  }

  pub pushed_ahead : IsAheadBelow keys' heap' (length heap) node
  pushed_ahead place l b = absurd (none_below place l b)

-- the last node is taken away, and does not wait any more
module _ (keys : List (Option ℤ)) (heap places : List ℕ) (node : ℕ) (h : IsHeap keys (heap ++ node ∷ []) places) where
  longer : (place : ℕ) → place < length heap → place < length (heap ++ node ∷ [])
  longer place l = omega (arith, more heap node)

  last : length heap < length (heap ++ node ∷ [])
  last = omega (arith, more heap node)

  apart : (place : ℕ) → place < length heap → heap_node heap place ≢ node
  apart place l e =
      nodes_differ keys (heap ++ node ∷ []) places h place (length heap) (longer place l) last (λ q. omega arith) (at_front heap node place l ∙ e ∙ sym (at_end heap node))

  dropped_held : (other : ℕ) (key : ℤ) → Waits (set keys node None) other key → (heap_place places other < length heap) × (heap_node heap (heap_place places other) ≡ other)
  dropped_held other key w =
      let n : other ≢ node = taken_apart keys node other key w in
      let old : (heap_place places other < length (heap ++ node ∷ [])) × (heap_node (heap ++ node ∷ []) (heap_place places other) ≡ other) = h.held other key (waits_before keys node None other key n w) in
      let m : heap_place places other ≢ length heap = (λ q. n (sym old.1 ∙ ap (heap_node (heap ++ node ∷ [])) q ∙ at_end heap node)) in
      let l : heap_place places other < length heap = omega (arith, old.0, more heap node) in
      (l, sym (at_front heap node (heap_place places other) l) ∙ old.1)

  pub dropped : IsHeap (set keys node None) heap places
  dropped = record {
    room = omega (arith, h.room, length-set keys node None);
    ordered = λ place l a.
        let l2 : above place < length heap = omega arith in
        ahead_after keys node None (heap_node heap (above place)) (heap_node heap place) (apart (above place) l2) (apart place l)
        (ahead_by keys (heap_node (heap ++ node ∷ []) (above place)) (heap_node (heap ++ node ∷ []) place) (heap_node heap (above place)) (heap_node heap place) (sym (at_front heap node (above place) l2)) (sym (at_front heap node place l)) (h.ordered place (longer place l) a));
    waiting = λ place l. waiting_after keys node None (heap_node heap place) (apart place l) (subst (IsWaiting keys) (at_front heap node place l) (h.waiting place (longer place l)));
    placed = λ place l. ap (heap_place places) (sym (at_front heap node place l)) ∙ h.placed place (longer place l);
    held = dropped_held;
  }

  pub last_waiting : IsWaiting keys node
  last_waiting = subst (IsWaiting keys) (at_end heap node) (h.waiting (length heap) last)

-- so it loses its place
pub let_go : (keys : List ℤ) (heap places : List ℕ) (node : ℕ) → IsHeap (waiting_keys keys places) (heap ++ node ∷ []) places → IsHeap (waiting_keys keys (set places node nowhere)) heap (set places node nowhere)
let_go keys heap places node h =
    let seen = waiting_keys keys places in
    let d : IsHeap (set seen node None) heap places = dropped seen heap places node h in
    subst (λ k. IsHeap k heap (set places node nowhere)) (sym (place_lost keys places node))
    (replaced (set seen node None) heap places d (set places node nowhere) (λ other w. get_or-set_other places node other nowhere 0 (taken_apart seen node other w.0 w.1)) (omega (arith, d.room, length-set places node nowhere)))

-- the last node is taken away, to be put in the hole at the root
module _ (keys : List (Option ℤ)) (heap places : List ℕ) (node root : ℕ) (h : HasHole keys (heap ++ node ∷ []) places 0 root) (gone : IsFreeNode keys root) where
  module _ (some : 0 < length heap) where
    grown : (place : ℕ) → place < length heap → place < length (heap ++ node ∷ [])
    grown place l = omega (arith, more heap node)

    end : length heap < length (heap ++ node ∷ [])
    end = omega (arith, more heap node)

    not_root : length heap ≢ 0
    not_root = λ e. omega arith

    pub last_waits : IsWaiting keys node
    last_waits = subst (IsWaiting keys) (at_end heap node) (h.waiting (length heap) end not_root)

    last_apart : (place : ℕ) → place < length heap → place ≢ 0 → heap_node heap place ≢ node
    last_apart place l n e =
        let p : heap_place places (heap_node (heap ++ node ∷ []) place) ≡ place = h.placed place (grown place l) n in
        let q : heap_place places (heap_node (heap ++ node ∷ []) (length heap)) ≡ length heap = h.placed (length heap) end not_root in
        let same : place ≡ length heap = sym p ∙ ap (heap_place places) (at_front heap node place l ∙ e ∙ sym (at_end heap node)) ∙ q in
        omega arith

    shrunk_held : (other : ℕ) (key : ℤ) → Waits keys other key → other ≢ node → (heap_place places other < length heap) × (heap_place places other ≢ 0) × (heap_node heap (heap_place places other) ≡ other)
    shrunk_held other key w n =
        let old : (heap_place places other < length (heap ++ node ∷ [])) × (heap_place places other ≢ 0) × (heap_node (heap ++ node ∷ []) (heap_place places other) ≡ other) = h.held other key w (free_apart keys root other gone (key, w)) in
        let m : heap_place places other ≢ length heap = (λ q. n (sym old.2 ∙ ap (heap_node (heap ++ node ∷ [])) q ∙ at_end heap node)) in
        let l : heap_place places other < length heap = omega (arith, old.0, more heap node) in
        (l, old.1, sym (at_front heap node (heap_place places other) l) ∙ old.2)

    pub shrunk : HasHole keys heap places 0 node
    shrunk = record {
      room = h.room;
      within = some;
      ordered = λ place l a n m.
          let l2 : above place < length heap = omega arith in
          ahead_by keys (heap_node (heap ++ node ∷ []) (above place)) (heap_node (heap ++ node ∷ []) place) (heap_node heap (above place)) (heap_node heap place) (sym (at_front heap node (above place) l2)) (sym (at_front heap node place l)) (h.ordered place (grown place l) a n m);
      across = λ place l b p. absurd (omega arith);
      waiting = λ place l n. subst (IsWaiting keys) (at_front heap node place l) (h.waiting place (grown place l) n);
      placed = λ place l n. ap (heap_place places) (sym (at_front heap node place l)) ∙ h.placed place (grown place l) n;
      others = last_apart;
      held = shrunk_held;
    }
