-- A node that waits gets a key that is no greater.
use Rattle.std.proofs.Common.{◌≡◌, ℕ, ◌<◌, List, length, set, refl, ap, sym, ◌∙◌, subst, arith, ℤ}
use Rattle.std.specs.Prelude.{◌≢◌, ◌≤ℤ◌, Option, Some}
use Rattle.frontier.specs.Keys.{Waits}
use Rattle.frontier.specs.Heap.{heap_node, heap_place, above, IsHeap, HasHole, IsAheadBelow}
use Rattle.frontier.proofs.Waiting.{lowered_ahead}
use Rattle.frontier.proofs.Moving.{ahead_by}
use Rattle.frontier.proofs.Filling.{nodes_differ, opened}

module _ (keys : List (Option ℤ)) (heap places : List ℕ) (h : IsHeap keys heap places) (node : ℕ) (before key : ℤ) (w : Waits keys node before) (less : key ≤ℤ before) where
  pub place_within : heap_place places node < length heap
  place_within = (h.held node before w).0

  here : heap_node heap (heap_place places node) ≡ node
  here = (h.held node before w).1

  pub lowered : HasHole (set keys node (Some key)) heap places (heap_place places node) node
  lowered = subst (λ n. HasHole (set keys n (Some key)) heap places (heap_place places node) n) here (opened keys heap places h (heap_place places node) place_within (Some key))

  pub lowered_below : IsAheadBelow (set keys node (Some key)) heap (heap_place places node) node
  lowered_below place l b =
      let e : above place ≡ heap_place places node = b.1 in
      let p : 0 < place = b.0 in
      let n : heap_node heap place ≢ heap_node heap (heap_place places node) = nodes_differ keys heap places h place (heap_place places node) l place_within (λ q. omega arith) in
      lowered_ahead keys node (heap_node heap place) before key w less (λ q. n (q ∙ sym here))
      (ahead_by keys (heap_node heap (above place)) (heap_node heap place) node (heap_node heap place) (sym (ap (heap_node heap) e ∙ here)) refl (h.ordered place l p))
