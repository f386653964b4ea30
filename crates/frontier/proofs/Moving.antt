-- The hole of a heap is moved to another place, whose node goes where the hole was.
use Rattle.std.proofs.Common.{◌≡◌, ℕ, ◌<◌, ◌≤◌, List, length, set, refl, ap, sym, ◌∙◌, subst, arith, inl, inr, ℤ, get_or-set_same, get_or-set_other}
use Rattle.std.specs.Prelude.{◌≢◌, Option}
use Rattle.std.proofs.lemmas.Bool.{cases_eq}
use Rattle.std.proofs.lemmas.List.{length-set}
use Rattle.frontier.specs.Keys.{Waits}
use Rattle.frontier.specs.Heap.{heap_node, heap_place, above, IsChildPlace, IsWaiting, IsAhead, HasHole, IsAheadBelow, IsBehindAbove}
use Rattle.frontier.proofs.Waiting.{waiting_within, ahead_on}

pub ahead_by : (keys : List (Option ℤ)) (a b c d : ℕ) → c ≡ a → d ≡ b → IsAhead keys a b → IsAhead keys c d
ahead_by keys a b c d p q h = subst (λ x. IsAhead keys x d) (sym p) (subst (λ x. IsAhead keys a x) (sym q) h)

-- a node is put at a place
module _ (heap : List ℕ) (hole node : ℕ) (within : hole < length heap) where
  pub at_hole : (place : ℕ) → place ≡ hole → heap_node (set heap hole node) place ≡ node
  at_hole place e = ap (heap_node (set heap hole node)) e ∙ get_or-set_same heap hole node 0 within

  pub at_other : (place : ℕ) → place ≢ hole → heap_node (set heap hole node) place ≡ heap_node heap place
  at_other place n = get_or-set_other heap hole place node 0 n

  pub back : (place : ℕ) → place < length (set heap hole node) → place < length heap
  back place l = omega (arith, length-set heap hole node)

  pub on : (place : ℕ) → place < length heap → place < length (set heap hole node)
  on place l = omega (arith, length-set heap hole node)

-- the node at another place goes to the hole
module _ (keys : List (Option ℤ)) (heap places : List ℕ) (hole node : ℕ) (h : HasHole keys heap places hole node) (from : ℕ) (lf : from < length heap) (apart : from ≢ hole) where
  room' : length keys ≤ length (set places (heap_node heap from) hole)
  room' = omega (arith, h.room, length-set places (heap_node heap from) hole)

  known : heap_node heap from < length places
  known = omega (arith, h.room, waiting_within keys (heap_node heap from) (h.waiting from lf apart))

  others_apart : (place : ℕ) → place < length heap → place ≢ hole → place ≢ from → heap_node heap place ≢ heap_node heap from
  others_apart place l n m e = m (sym (h.placed place l n) ∙ ap (heap_place places) e ∙ h.placed from lf apart)

  waiting' : (place : ℕ) → place < length (set heap hole (heap_node heap from)) → place ≢ from → IsWaiting keys (heap_node (set heap hole (heap_node heap from)) place)
  waiting' place l n = elim (cases_eq place hole) [
    | inl e ↦ subst (IsWaiting keys) (sym (at_hole heap hole (heap_node heap from) h.within place e)) (h.waiting from lf apart)
    | inr m ↦ subst (IsWaiting keys) (sym (at_other heap hole (heap_node heap from) h.within place m)) (h.waiting place (back heap hole (heap_node heap from) h.within place l) m)
  ]

  placed' : (place : ℕ) → place < length (set heap hole (heap_node heap from)) → place ≢ from → heap_place (set places (heap_node heap from) hole) (heap_node (set heap hole (heap_node heap from)) place) ≡ place
  placed' place l n = elim (cases_eq place hole) [
    | inl e ↦ ap (heap_place (set places (heap_node heap from) hole)) (at_hole heap hole (heap_node heap from) h.within place e) ∙ get_or-set_same places (heap_node heap from) hole 0 known ∙ sym e
    | inr m ↦
        let l2 : place < length heap = back heap hole (heap_node heap from) h.within place l in
        ap (heap_place (set places (heap_node heap from) hole)) (at_other heap hole (heap_node heap from) h.within place m)
        ∙ get_or-set_other places (heap_node heap from) (heap_node heap place) hole 0 (others_apart place l2 m n)
        ∙ h.placed place l2 m
  ]

  others' : (place : ℕ) → place < length (set heap hole (heap_node heap from)) → place ≢ from → heap_node (set heap hole (heap_node heap from)) place ≢ node
  others' place l n q = elim (cases_eq place hole) [
    | inl e ↦ h.others from lf apart (sym (at_hole heap hole (heap_node heap from) h.within place e) ∙ q)
    | inr m ↦ h.others place (back heap hole (heap_node heap from) h.within place l) m (sym (at_other heap hole (heap_node heap from) h.within place m) ∙ q)
  ]

  abbrev Held : ℕ → ℕ → Type 0
  Held other place = (place < length (set heap hole (heap_node heap from))) × (place ≢ from) × (heap_node (set heap hole (heap_node heap from)) place ≡ other)

  held' : (other : ℕ) (key : ℤ) → Waits keys other key → other ≢ node → Held other (heap_place (set places (heap_node heap from) hole) other)
  held' other key w n = elim (cases_eq other (heap_node heap from)) [
    | inl e ↦
        subst (Held other) (sym (ap (heap_place (set places (heap_node heap from) hole)) e ∙ get_or-set_same places (heap_node heap from) hole 0 known))
        (on heap hole (heap_node heap from) h.within hole h.within, (λ q. apart (sym q)), at_hole heap hole (heap_node heap from) h.within hole refl ∙ sym e)
    | inr m ↦
        let old : (heap_place places other < length heap) × (heap_place places other ≢ hole) × (heap_node heap (heap_place places other) ≡ other) = h.held other key w n in
        subst (Held other) (sym (get_or-set_other places (heap_node heap from) other hole 0 m))
        (on heap hole (heap_node heap from) h.within (heap_place places other) old.0, (λ q. m (sym old.2 ∙ ap (heap_node heap) q)), at_other heap hole (heap_node heap from) h.within (heap_place places other) old.1 ∙ old.2)
  ]

  abbrev now : ℕ → ℕ
  now place = heap_node (set heap hole (heap_node heap from)) place

  -- the node above the hole goes down to it
  module _ (positive : 0 < hole) (parent : from ≡ above hole) where
    up_ordered : (place : ℕ) → place < length (set heap hole (heap_node heap from)) → 0 < place → place ≢ from → above place ≢ from → IsAhead keys (now (above place)) (now place)
    up_ordered place l a n m =
        let l2 : place < length heap = back heap hole (heap_node heap from) h.within place l in
        let nh : place ≢ hole = (λ e. m (ap above e ∙ sym parent)) in
        elim (cases_eq (above place) hole) [
          | inl e ↦ ahead_by keys (heap_node heap from) (heap_node heap place) (now (above place)) (now place) (at_hole heap hole (heap_node heap from) h.within (above place) e) (at_other heap hole (heap_node heap from) h.within place nh)
              (ahead_by keys (heap_node heap (above hole)) (heap_node heap place) (heap_node heap from) (heap_node heap place) (ap (heap_node heap) parent) refl (h.across place l2 (a, e) positive))
          | inr k ↦ ahead_by keys (heap_node heap (above place)) (heap_node heap place) (now (above place)) (now place) (at_other heap hole (heap_node heap from) h.within (above place) k) (at_other heap hole (heap_node heap from) h.within place nh)
              (h.ordered place l2 a nh k)
        ]

    over : above from ≢ hole
    over = λ e. omega arith

    up_parent : 0 < from → IsAhead keys (heap_node heap (above from)) (heap_node heap from)
    up_parent a = h.ordered from lf a apart over

    up_sibling : (place : ℕ) → place < length heap → IsChildPlace place from → place ≢ hole → IsAhead keys (heap_node heap from) (heap_node heap place)
    up_sibling place l b n =
        let e : above place ≡ from = b.1 in
        ahead_by keys (heap_node heap (above place)) (heap_node heap place) (heap_node heap from) (heap_node heap place) (ap (heap_node heap) (sym e)) refl
        (h.ordered place l b.0 n (λ q. apart (sym e ∙ q)))

    up_across : (place : ℕ) → place < length (set heap hole (heap_node heap from)) → IsChildPlace place from → 0 < from → IsAhead keys (now (above from)) (now place)
    up_across place l b a = elim (cases_eq place hole) [
      | inl e ↦ ahead_by keys (heap_node heap (above from)) (heap_node heap from) (now (above from)) (now place) (at_other heap hole (heap_node heap from) h.within (above from) over) (at_hole heap hole (heap_node heap from) h.within place e) (up_parent a)
      | inr n ↦ ahead_by keys (heap_node heap (above from)) (heap_node heap place) (now (above from)) (now place) (at_other heap hole (heap_node heap from) h.within (above from) over) (at_other heap hole (heap_node heap from) h.within place n)
          (ahead_on keys (heap_node heap (above from)) (heap_node heap from) (heap_node heap place) (up_parent a) (up_sibling place (back heap hole (heap_node heap from) h.within place l) b n))
    ]

    pub moved_up : HasHole keys (set heap hole (heap_node heap from)) (set places (heap_node heap from) hole) from node
    moved_up = record { room = room'; within = on heap hole (heap_node heap from) h.within from lf; ordered = up_ordered; across = up_across; waiting = waiting'; placed = placed'; others = others'; held = held' }

    pub ahead_up : IsAhead keys node (heap_node heap from) → IsAheadBelow keys (set heap hole (heap_node heap from)) from node
    ahead_up a place l b = elim (cases_eq place hole) [
      | inl e ↦ ahead_by keys node (heap_node heap from) node (now place) refl (at_hole heap hole (heap_node heap from) h.within place e) a
      | inr n ↦ ahead_by keys node (heap_node heap place) node (now place) refl (at_other heap hole (heap_node heap from) h.within place n)
          (ahead_on keys node (heap_node heap from) (heap_node heap place) a (up_sibling place (back heap hole (heap_node heap from) h.within place l) b n))
    ]

  -- the node that comes first below the hole goes up to it
  module _ (below : IsChildPlace from hole) (first : (place : ℕ) → place < length heap → IsChildPlace place hole → place ≢ from → IsAhead keys (heap_node heap from) (heap_node heap place)) where
    down_ordered : (place : ℕ) → place < length (set heap hole (heap_node heap from)) → 0 < place → place ≢ from → above place ≢ from → IsAhead keys (now (above place)) (now place)
    down_ordered place l a n m =
        let l2 : place < length heap = back heap hole (heap_node heap from) h.within place l in
        elim (cases_eq place hole) [
          | inl e ↦
              let p : 0 < hole = omega arith in
              let k : above place ≢ hole = (λ q. omega arith) in
              ahead_by keys (heap_node heap (above hole)) (heap_node heap from) (now (above place)) (now place)
              (at_other heap hole (heap_node heap from) h.within (above place) k ∙ ap (λ x. heap_node heap (above x)) e) (at_hole heap hole (heap_node heap from) h.within place e) (h.across from lf below p)
          | inr nh ↦ elim (cases_eq (above place) hole) [
            | inl e ↦ ahead_by keys (heap_node heap from) (heap_node heap place) (now (above place)) (now place) (at_hole heap hole (heap_node heap from) h.within (above place) e) (at_other heap hole (heap_node heap from) h.within place nh) (first place l2 (a, e) n)
            | inr k ↦ ahead_by keys (heap_node heap (above place)) (heap_node heap place) (now (above place)) (now place) (at_other heap hole (heap_node heap from) h.within (above place) k) (at_other heap hole (heap_node heap from) h.within place nh) (h.ordered place l2 a nh k)
          ]
        ]

    down_across : (place : ℕ) → place < length (set heap hole (heap_node heap from)) → IsChildPlace place from → 0 < from → IsAhead keys (now (above from)) (now place)
    down_across place l b a =
        let e1 : above place ≡ from = b.1 in
        let e2 : above from ≡ hole = below.1 in
        let p : 0 < place = b.0 in
        let n : place ≢ hole = (λ q. omega arith) in
        ahead_by keys (heap_node heap (above place)) (heap_node heap place) (now (above from)) (now place)
        (at_hole heap hole (heap_node heap from) h.within (above from) e2 ∙ ap (heap_node heap) (sym e1)) (at_other heap hole (heap_node heap from) h.within place n)
        (h.ordered place (back heap hole (heap_node heap from) h.within place l) p n (λ q. apart (sym e1 ∙ q)))

    pub moved_down : HasHole keys (set heap hole (heap_node heap from)) (set places (heap_node heap from) hole) from node
    moved_down = record { room = room'; within = on heap hole (heap_node heap from) h.within from lf; ordered = down_ordered; across = down_across; waiting = waiting'; placed = placed'; others = others'; held = held' }

    pub behind_down : IsAhead keys (heap_node heap from) node → IsBehindAbove keys (set heap hole (heap_node heap from)) from node
    behind_down a _ = ahead_by keys (heap_node heap from) node (now (above from)) node (at_hole heap hole (heap_node heap from) h.within (above from) below.1) refl a

-- a node ahead of the one that comes first below a place is ahead of both
pub ahead_of_both : (keys : List (Option ℤ)) (heap : List ℕ) (place node first : ℕ) → ((k : ℕ) → k < length heap → IsChildPlace k place → k ≢ first → IsAhead keys (heap_node heap first) (heap_node heap k)) → IsAhead keys node (heap_node heap first) → IsAheadBelow keys heap place node
ahead_of_both keys heap place node first f a k l b = elim (cases_eq k first) [
  | inl e ↦ ahead_by keys node (heap_node heap first) node (heap_node heap k) refl (ap (heap_node heap) e) a
  | inr n ↦ ahead_on keys node (heap_node heap first) (heap_node heap k) a (f k l b n)
]
