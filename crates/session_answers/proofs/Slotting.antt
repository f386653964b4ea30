-- Slots of kept events.
use Rattle.std.proofs.Common.{◌≡◌, ◌⊎◌, inl, inr, ℕ, zero, suc, ◌<◌, ◌==◌, List, [], ◌∷◌, ◌++◌, length, slice_get, Some, None, find, Bool, true, false, cond, refl, sym, ◌∙◌, ap, subst, arith}
use Rattle.std.proofs.lemmas.Option.{slice_get_within}
use Rattle.traces.specs.declared.event_id.EventId.{EventId}
use Rattle.repair.specs.declared.slot.Slot.{Slot}
use Rattle.sync_graph.specs.Graph.{GraphLists}
use Rattle.roster.specs.declared.came.Came.{Came}
use Rattle.roster.specs.Roster.{RosterLists, IsRoster, id_of}
use Rattle.roster.specs.Rosters.{KnowsNodes}
use Rattle.session_graph.specs.Kept.{KeepsEvents}
use Rattle.replies.specs.Reply.{IsAmong}
use Rattle.session_answers.specs.Ready.{AreSlotsOf, HasNodeOf}
use Rattle.replies.proofs.Elements.{some_same, there_some, snoc_parts, snoc_long}
use Rattle.session_answers.proofs.RosterEvents.{event_of_one, node_of_one}

-- ---- slots
-- the slot that is found is of the node
found_node : (slots : List Slot) (node : ℕ) (slot : Slot) → find (λ (s : Slot). s.node == node) slots ≡ Some slot → slot.node ≡ node
found_node [] node slot is = absurd cc
found_node (s ∷ slots) node slot is = by (s.node == node) refl is (found_node slots node slot)
  where
    by : (b : Bool) → (s.node == node) ≡ b → cond b (Some s) (find (λ (x : Slot). x.node == node) slots) ≡ Some slot →
        (find (λ (x : Slot). x.node == node) slots ≡ Some slot → slot.node ≡ node) → slot.node ≡ node
    by true same here next = let e : s ≡ slot = some_same s slot here in subst (λ (x : Slot). x.node ≡ node) e (grind (arith, same))
    by false other here next = next here

-- the node of a slot has one
pub slot_found : (slots : List Slot) (k : ℕ) (slot : Slot) → slice_get slots k ≡ Some slot → find (λ (x : Slot). x.node == slot.node) slots ≡ None → ⊥
slot_found [] k slot at none = absurd cc
slot_found (s ∷ slots) zero slot at none = by (s.node == slot.node) refl none
  where
    by : (b : Bool) → (s.node == slot.node) ≡ b → cond b (Some s) (find (λ (x : Slot). x.node == slot.node) slots) ≡ None → ⊥
    by true same is = absurd cc
    by false other is = let e : s.node ≡ slot.node = ap (λ (x : Slot). x.node) (some_same s slot at) in grind (arith, other, e)
slot_found (s ∷ slots) (suc k) slot at none = by (s.node == slot.node) refl none (slot_found slots k slot at)
  where
    by : (b : Bool) → (s.node == slot.node) ≡ b → cond b (Some s) (find (λ (x : Slot). x.node == slot.node) slots) ≡ None → (find (λ (x : Slot). x.node == slot.node) slots ≡ None → ⊥) → ⊥
    by true same is next = absurd cc
    by false other is next = next is

module _ (r : RosterLists) (is : IsRoster r) (g : GraphLists) (knows : KnowsNodes r g) (kept : List EventId) (slots : List Slot) (are : AreSlotsOf r kept slots) (node : ℕ) (event : EventId) (at : HasNodeOf r event node) where
  -- the event of a slot of this node is this one
  event_of : (k : ℕ) (slot : Slot) → slice_get slots k ≡ Some slot → slot.node ≡ node → slice_get kept k ≡ Some event
  event_of k slot here same =
      let inside : k < length slots = slice_get_within slots k slot here in
      let each : length slots ≡ length kept = are.each in
      let other = there_some kept k (omega (arith, inside, each)) in
      let there : HasNodeOf r other.0 node = subst (λ (n : ℕ). HasNodeOf r other.0 n) same (are.nodes k other.0 slot other.1 here) in
      other.1 ∙ ap (λ (e : EventId). Some e) (event_of_one r is g knows other.0 event node there at)

  -- the slot of a node has its event's place among those that are kept
  pub has_place : (k : ℕ) (slot : Slot) → slice_get slots k ≡ Some slot → find (λ (s : Slot). s.node == node) slots ≡ Some slot → slice_get kept k ≡ Some event
  has_place k slot here found = event_of k slot here (found_node slots node slot found)

  -- an event whose node has no slot is not kept
  pub not_among : find (λ (s : Slot). s.node == node) slots ≡ None → IsAmong kept event → ⊥
  not_among none (k, here) =
      let inside : k < length kept = slice_get_within kept k event here in
      let each : length slots ≡ length kept = are.each in
      let slot = there_some slots k (omega (arith, inside, each)) in
      let same : slot.0.node ≡ node = node_of_one r is event slot.0.node node (are.nodes k event slot.0 here slot.1) at in
      slot_found slots k slot.0 slot.1 (subst (λ (n : ℕ). find (λ (s : Slot). s.node == n) slots ≡ None) (sym same) none)

  -- with one more event, the slots have one more
  pub slots_more : (slot : Slot) → slot.node ≡ node → AreSlotsOf r (kept ++ event ∷ []) (slots ++ slot ∷ [])
  slots_more slot same = record {
    each = let a = snoc_long slots slot in let b = snoc_long kept event in let e = are.each in omega (arith, a, b, e);
    nodes = λ k e s here there. joined k e s (snoc_parts kept event k e here) (snoc_parts slots slot k s there);
  }
    where
      joined : (k : ℕ) (e : EventId) (s : Slot) → (slice_get kept k ≡ Some e) ⊎ ((k ≡ length kept) × (event ≡ e)) → (slice_get slots k ≡ Some s) ⊎ ((k ≡ length slots) × (slot ≡ s)) → HasNodeOf r e s.node
      joined k e s (inl here) (inl there) = are.nodes k e s here there
      joined k e s (inl here) (inr last) = let inside : k < length kept = slice_get_within kept k e here in let each = are.each in let l = last.0 in absurd (omega (arith, inside, each, l))
      joined k e s (inr last) (inl there) = let inside : k < length slots = slice_get_within slots k s there in let each = are.each in let l = last.0 in absurd (omega (arith, inside, each, l))
      joined k e s (inr last) (inr last') =
          let node_is : node ≡ s.node = sym same ∙ ap (λ (x : Slot). x.node) last'.1 in
          subst (λ (x : EventId). HasNodeOf r x s.node) last.1 (subst (λ (n : ℕ). HasNodeOf r event n) node_is at)

-- no slots are those of no event
pub no_slots : (r : RosterLists) (slots : List Slot) → slots ≡ [] → AreSlotsOf r [] slots
no_slots r slots none = record { each = ap length none; nodes = λ k event slot here there. absurd cc }

-- events keep their nodes where more come
same_id : (e f : Came) → f.label ≡ e.label → f.number ≡ e.number → id_of f ≡ id_of e
same_id e f label number =
    ap (λ (l : ℕ). let i : EventId = record { label = l; number = f.number } in i) label
    ∙ ap (λ (n : ℕ). let i : EventId = record { label = e.label; number = n } in i) number

pub node_kept : (old new : RosterLists) (event : EventId) (node : ℕ) → KeepsEvents old new → HasNodeOf old event node → HasNodeOf new event node
node_kept old new event node keeps is =
    let f = keeps is.number is.came is.there in
    record { number = is.number; came = f.0; there = f.1; id_is = same_id is.came f.0 f.3 f.4 ∙ is.id_is; node_is = f.5 ∙ is.node_is }

pub slots_kept : (old new : RosterLists) (kept : List EventId) (slots : List Slot) → KeepsEvents old new → AreSlotsOf old kept slots → AreSlotsOf new kept slots
slots_kept old new kept slots keeps are = record { each = are.each; nodes = λ k event slot here there. node_kept old new event slot.node keeps (are.nodes k event slot here there) }
