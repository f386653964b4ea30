-- The root comes out first, and a heap holds no more nodes than there is room for.
use Rattle.std.proofs.Common.{◌≡◌, ℕ, zero, suc, ◌+◌, ◌<◌, ◌≤◌, List, [], ◌∷◌, length, get_or, refl, sym, ◌∙◌, subst, arith, inl, inr, ◌⊎◌, ℤ}
use Rattle.std.specs.Prelude.{◌≢◌, ◌==◌, if◌then◌else◌, Option, Some, None, replicate}
use Rattle.std.proofs.lemmas.Bool.{cases_eq, cases_lt, eq-eqb, ne_eqb, cond-true, cond-false}
use Rattle.std.proofs.lemmas.Grind.{get_or_default_zero}
use Rattle.std.proofs.lemmas.List.{get_or_past, same_lists, get_or-replicate, length-replicate}
use Rattle.std.proofs.lemmas.Option.{slice_get_within}
use Rattle.frontier.specs.Keys.{IsFreeNode, IsEmpty, IsFirstKey, IsLeastEntry}
use Rattle.frontier.specs.Heap.{heap_node, heap_place, above, waiting_key, IsAhead, IsHeap}
use Rattle.frontier.proofs.Waiting.{waiting_within, waits_key_of, key_of_waits, free_apart, ahead_same, ahead_on}
use Rattle.frontier.proofs.Filling.{nodes_differ}

-- the root is ahead of the nodes at all places
pub root_ahead : (keys : List (Option ℤ)) (heap places : List ℕ) → IsHeap keys heap places → (fuel place : ℕ) → place < fuel → place < length heap → IsAhead keys (heap_node heap 0) (heap_node heap place)
root_ahead keys heap places h zero place f l = absurd (omega arith)
root_ahead keys heap places h (suc fuel) place f l = elim (cases_eq place 0) [
  | inl e ↦ subst (λ p. IsAhead keys (heap_node heap 0) (heap_node heap p)) (sym e) (ahead_same keys (heap_node heap 0))
  | inr n ↦ ahead_on keys (heap_node heap 0) (heap_node heap (above place)) (heap_node heap place) (root_ahead keys heap places h fuel (above place) (omega arith) (omega arith)) (h.ordered place l (omega arith))
]

pub root_least : (keys : List (Option ℤ)) (heap places : List ℕ) → IsHeap keys heap places → 0 < length heap → IsLeastEntry keys (heap_node heap 0) (waiting_key keys (heap_node heap 0))
root_least keys heap places h some = record {
  waits = waits_key_of keys (heap_node heap 0) (h.waiting 0 some);
  least = λ other key w.
      let at : (heap_place places other < length heap) × (heap_node heap (heap_place places other) ≡ other) = h.held other key w in
      let a : IsAhead keys (heap_node heap 0) other = subst (IsAhead keys (heap_node heap 0)) at.1 (root_ahead keys heap places h (length heap) (heap_place places other) at.0 at.0) in
      subst (λ k. IsFirstKey (waiting_key keys (heap_node heap 0)) (heap_node heap 0) k other) (key_of_waits keys other key w) a;
}

-- where the heap has no node none waits
pub none_waits : (keys : List (Option ℤ)) (heap places : List ℕ) → IsHeap keys heap places → length heap ≡ 0 → IsEmpty keys
none_waits keys heap places h e node key w =
    let at : (heap_place places node < length heap) × (heap_node heap (heap_place places node) ≡ node) = h.held node key w in
    let l : heap_place places node < length heap = at.0 in
    omega arith

free_at : (keys : List (Option ℤ)) → IsEmpty keys → (k : ℕ) (d : Option ℤ) → k < length keys → get_or keys k d ≡ None
free_at [] n k d l = absurd (omega arith)
free_at (None ∷ keys) n zero d l = refl
free_at (Some key ∷ keys) n zero d l = absurd (n 0 key refl)
free_at (x ∷ keys) n (suc k) d l = free_at keys (λ node key w. n (suc node) key w) k d (omega arith)

-- a list in which none waits
pub all_free : (keys : List (Option ℤ)) → IsEmpty keys → keys ≡ replicate (length keys) None
all_free keys n = same_lists keys (replicate (length keys) None) (sym (length-replicate (length keys) None))
    (λ k d l. free_at keys n k d l ∙ sym (get_or-replicate (length keys) k None d l))

-- v in place of the top, and every other number as it is
swapped : ℕ → ℕ → ℕ → ℕ
swapped top v a = if a == top then v else a

swapped-cases : (top v a : ℕ) → ((a ≡ top) × (swapped top v a ≡ v)) ⊎ ((a ≢ top) × (swapped top v a ≡ a))
unfolding swapped
swapped-cases top v a = elim (cases_eq a top) [
  | inl q ↦ inl (q, cond-true (a == top) v a (eq-eqb a top q))
  | inr n ↦ inr (n, cond-false (a == top) v a (ne_eqb a top n))
]

-- different numbers below a number are no more than it
different : (room count : ℕ) (f : ℕ → ℕ) → ((i : ℕ) → i < count → f i < room) → ((i j : ℕ) → i < count → j < count → i ≢ j → f i ≢ f j) → count ≤ room
different room zero f below apart = omega arith
different zero (suc count) f below apart = (let l : f count < 0 = below count (omega arith) in omega arith)
different (suc top) (suc count) f below apart =
    let v : ℕ = f count in
    let lv : v < suc top = below count (omega arith) in
    let r : count ≤ top = different top count (λ i. swapped top v (f i))
    (λ i l.
    let li : f i < suc top = below i (omega arith) in
    let ni : f i ≢ f count = apart i count (omega arith) (omega arith) (λ q. omega arith) in
    elim (swapped-cases top v (f i)) [
      | inl q ↦ elim (cases_eq v top) [
        | inl w ↦ absurd (ni (q.0 ∙ sym w))
        | inr w ↦ omega (arith, q.1)
      ]
      | inr q ↦ (let q0 : f i ≢ top = q.0 in omega (arith, q.1))
    ])
    (λ i j li lj n e.
    let ni : f i ≢ f count = apart i count (omega arith) (omega arith) (λ q. omega arith) in
    let nj : f j ≢ f count = apart j count (omega arith) (omega arith) (λ q. omega arith) in
    let d : f i ≢ f j = apart i j (omega arith) (omega arith) n in
    elim (swapped-cases top v (f i)) [
      | inl q ↦ elim (swapped-cases top v (f j)) [
        | inl w ↦ d (q.0 ∙ sym w.0)
        | inr w ↦ nj (sym w.1 ∙ sym e ∙ q.1)
      ]
      | inr q ↦ elim (swapped-cases top v (f j)) [
        | inl w ↦ ni (sym q.1 ∙ e ∙ w.1)
        | inr w ↦ d (sym q.1 ∙ e ∙ w.1)
      ]
    ]) in
    omega arith

pub fits : (keys : List (Option ℤ)) (heap places : List ℕ) → IsHeap keys heap places → length heap ≤ length keys
fits keys heap places h = different (length keys) (length heap) (heap_node heap) (λ i l. waiting_within keys (heap_node heap i) (h.waiting i l)) (nodes_differ keys heap places h)

-- the nodes of a heap and then one more
with_node : List ℕ → ℕ → ℕ → ℕ
with_node heap node place = get_or heap place node

with_node-front : (heap : List ℕ) (node place : ℕ) → place < length heap → with_node heap node place ≡ heap_node heap place
unfolding with_node
with_node-front heap node place l = get_or_default_zero heap place node l

with_node-end : (heap : List ℕ) (node place : ℕ) → length heap ≤ place → with_node heap node place ≡ node
unfolding with_node
with_node-end heap node place l = get_or_past heap place node l

-- one node more fits where one is free
pub fits_more : (keys : List (Option ℤ)) (heap places : List ℕ) → IsHeap keys heap places → (node : ℕ) → IsFreeNode keys node → length heap < length keys
fits_more keys heap places h node free =
    let l : length heap + 1 ≤ length keys = different (length keys) (length heap + 1) (with_node heap node)
    (λ i l. elim (cases_lt i (length heap)) [
      | inl m ↦ subst (λ n. n < length keys) (sym (with_node-front heap node i m)) (waiting_within keys (heap_node heap i) (h.waiting i m))
      | inr m ↦ subst (λ n. n < length keys) (sym (with_node-end heap node i m)) (slice_get_within keys node None free)
    ])
    (λ i j li lj n e. elim (cases_lt i (length heap)) [
      | inl m ↦ elim (cases_lt j (length heap)) [
        | inl k ↦ nodes_differ keys heap places h i j m k n (sym (with_node-front heap node i m) ∙ e ∙ with_node-front heap node j k)
        | inr k ↦ free_apart keys node (heap_node heap i) free (h.waiting i m) (sym (with_node-front heap node i m) ∙ e ∙ with_node-end heap node j k)
      ]
      | inr m ↦ elim (cases_lt j (length heap)) [
        | inl k ↦ free_apart keys node (heap_node heap j) free (h.waiting j k) (sym (with_node-front heap node j k) ∙ sym e ∙ with_node-end heap node i m)
        | inr k ↦ n (omega arith)
      ]
    ]) in
    omega arith
