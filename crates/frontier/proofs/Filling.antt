-- A node leaves its place in a heap, or is put in the hole.
use Rattle.std.proofs.Common.{◌≡◌, ℕ, ◌<◌, List, length, set, refl, ap, sym, ◌∙◌, subst, arith, inl, inr, ℤ, get_or-set_same, get_or-set_other}
use Rattle.std.specs.Prelude.{◌≢◌, Option}
use Rattle.std.proofs.lemmas.Bool.{cases_eq}
use Rattle.std.proofs.lemmas.List.{length-set}
use Rattle.frontier.specs.Keys.{Waits}
use Rattle.frontier.specs.Heap.{heap_node, heap_place, above, IsChildPlace, IsWaiting, IsAhead, IsHeap, HasHole, IsAheadBelow, IsBehindAbove}
use Rattle.frontier.proofs.Waiting.{waiting_within, waits_before, waiting_after, ahead_after, ahead_on}
use Rattle.frontier.proofs.Moving.{ahead_by, at_hole, at_other, back, on}

-- the node is put in the hole
module _ (keys : List (Option ℤ)) (heap places : List ℕ) (hole node : ℕ) (h : HasHole keys heap places hole node) (w : IsWaiting keys node) (behind : IsBehindAbove keys heap hole node) (ahead : IsAheadBelow keys heap hole node) where
  abbrev now : ℕ → ℕ
  now place = heap_node (set heap hole node) place

  known : node < length places
  known = omega (arith, h.room, waiting_within keys node w)

  ordered' : (place : ℕ) → place < length (set heap hole node) → 0 < place → IsAhead keys (now (above place)) (now place)
  ordered' place l a =
      let l2 : place < length heap = back heap hole node h.within place l in
      elim (cases_eq place hole) [
        | inl e ↦
            let k : above place ≢ hole = (λ q. omega arith) in
            ahead_by keys (heap_node heap (above hole)) node (now (above place)) (now place)
            (at_other heap hole node h.within (above place) k ∙ ap (λ x. heap_node heap (above x)) e) (at_hole heap hole node h.within place e) (behind (omega arith))
        | inr n ↦ elim (cases_eq (above place) hole) [
          | inl e ↦ ahead_by keys node (heap_node heap place) (now (above place)) (now place) (at_hole heap hole node h.within (above place) e) (at_other heap hole node h.within place n) (ahead place l2 (a, e))
          | inr k ↦ ahead_by keys (heap_node heap (above place)) (heap_node heap place) (now (above place)) (now place) (at_other heap hole node h.within (above place) k) (at_other heap hole node h.within place n) (h.ordered place l2 a n k)
        ]
      ]

  waiting' : (place : ℕ) → place < length (set heap hole node) → IsWaiting keys (now place)
  waiting' place l = elim (cases_eq place hole) [
    | inl e ↦ subst (IsWaiting keys) (sym (at_hole heap hole node h.within place e)) w
    | inr n ↦ subst (IsWaiting keys) (sym (at_other heap hole node h.within place n)) (h.waiting place (back heap hole node h.within place l) n)
  ]

  placed' : (place : ℕ) → place < length (set heap hole node) → heap_place (set places node hole) (now place) ≡ place
  placed' place l = elim (cases_eq place hole) [
    | inl e ↦ ap (heap_place (set places node hole)) (at_hole heap hole node h.within place e) ∙ get_or-set_same places node hole 0 known ∙ sym e
    | inr n ↦
        let l2 : place < length heap = back heap hole node h.within place l in
        ap (heap_place (set places node hole)) (at_other heap hole node h.within place n)
        ∙ get_or-set_other places node (heap_node heap place) hole 0 (h.others place l2 n)
        ∙ h.placed place l2 n
  ]

  abbrev Held : ℕ → ℕ → Type 0
  Held other place = (place < length (set heap hole node)) × (now place ≡ other)

  held' : (other : ℕ) (key : ℤ) → Waits keys other key → Held other (heap_place (set places node hole) other)
  held' other key v = elim (cases_eq other node) [
    | inl e ↦
        subst (Held other) (sym (ap (heap_place (set places node hole)) e ∙ get_or-set_same places node hole 0 known))
        (on heap hole node h.within hole h.within, at_hole heap hole node h.within hole refl ∙ sym e)
    | inr n ↦
        let old : (heap_place places other < length heap) × (heap_place places other ≢ hole) × (heap_node heap (heap_place places other) ≡ other) = h.held other key v n in
        subst (Held other) (sym (get_or-set_other places node other hole 0 n))
        (on heap hole node h.within (heap_place places other) old.0, at_other heap hole node h.within (heap_place places other) old.1 ∙ old.2)
  ]

  pub filled : IsHeap keys (set heap hole node) (set places node hole)
  filled = record { room = omega (arith, h.room, length-set places node hole); ordered = ordered'; waiting = waiting'; placed = placed'; held = held' }

-- no two places have one node
pub nodes_differ : (keys : List (Option ℤ)) (heap places : List ℕ) → IsHeap keys heap places → (i j : ℕ) → i < length heap → j < length heap → i ≢ j → heap_node heap i ≢ heap_node heap j
nodes_differ keys heap places h i j li lj n e = n (sym (h.placed i li) ∙ ap (heap_place places) e ∙ h.placed j lj)

-- the key of the node at a place is another one, and the place is the hole
module _ (keys : List (Option ℤ)) (heap places : List ℕ) (h : IsHeap keys heap places) (hole : ℕ) (within : hole < length heap) (v : Option ℤ) where
  abbrev keys' : List (Option ℤ)
  keys' = set keys (heap_node heap hole) v

  apart : (place : ℕ) → place < length heap → place ≢ hole → heap_node heap place ≢ heap_node heap hole
  apart place l n = nodes_differ keys heap places h place hole l within n

  still_ahead : (a b : ℕ) → a < length heap → b < length heap → a ≢ hole → b ≢ hole → IsAhead keys (heap_node heap a) (heap_node heap b) → IsAhead keys' (heap_node heap a) (heap_node heap b)
  still_ahead a b la lb na nb = ahead_after keys (heap_node heap hole) v (heap_node heap a) (heap_node heap b) (apart a la na) (apart b lb nb)

  across' : (place : ℕ) → place < length heap → IsChildPlace place hole → 0 < hole → IsAhead keys' (heap_node heap (above hole)) (heap_node heap place)
  across' place l b p =
      let e : above place ≡ hole = b.1 in
      let a : 0 < place = b.0 in
      let n : place ≢ hole = (λ q. omega arith) in
      still_ahead (above hole) place (omega arith) l (λ q. omega arith) n
      (ahead_on keys (heap_node heap (above hole)) (heap_node heap hole) (heap_node heap place) (h.ordered hole within p)
      (ahead_by keys (heap_node heap (above place)) (heap_node heap place) (heap_node heap hole) (heap_node heap place) (ap (heap_node heap) (sym e)) refl (h.ordered place l a)))

  held_by : (other : ℕ) (key : ℤ) → Waits keys' other key → other ≢ heap_node heap hole → (heap_place places other < length heap) × (heap_place places other ≢ hole) × (heap_node heap (heap_place places other) ≡ other)
  held_by other key w n =
      let old : (heap_place places other < length heap) × (heap_node heap (heap_place places other) ≡ other) = h.held other key (waits_before keys (heap_node heap hole) v other key n w) in
      (old.0, (λ q. n (sym old.1 ∙ ap (heap_node heap) q)), old.1)

  pub opened : HasHole keys' heap places hole (heap_node heap hole)
  opened = record {
    room = omega (arith, h.room, length-set keys (heap_node heap hole) v);
    within = within;
    ordered = λ place l a n m. still_ahead (above place) place (omega arith) l m n (h.ordered place l a);
    across = across';
    waiting = λ place l n. waiting_after keys (heap_node heap hole) v (heap_node heap place) (apart place l n) (h.waiting place l);
    placed = λ place l n. h.placed place l;
    others = apart;
    held = held_by;
  }

-- a node that has no place in the heap gets another one in the table
pub placed_anew : (keys : List (Option ℤ)) (heap places : List ℕ) (hole node : ℕ) → HasHole keys heap places hole node → (v : ℕ) → HasHole keys heap (set places node v) hole node
placed_anew keys heap places hole node h v = record {
  room = omega (arith, h.room, length-set places node v);
  within = h.within;
  ordered = h.ordered;
  across = h.across;
  waiting = h.waiting;
  placed = λ place l n. get_or-set_other places node (heap_node heap place) v 0 (h.others place l n) ∙ h.placed place l n;
  others = h.others;
  held = λ other key w n. subst (λ p. (p < length heap) × (p ≢ hole) × (heap_node heap p ≡ other)) (sym (get_or-set_other places node other v 0 n)) (h.held other key w n);
}
