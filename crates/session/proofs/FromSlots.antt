-- What is answered from rows of kept events, by the slots of their nodes.
use Rattle.std.proofs.Common.{◌≡◌, ℕ, ◌<◌, List, length, slice_get, Some, sym, ◌∙◌, ap, arith}
use Rattle.std.proofs.lemmas.Option.{slice_get_within}
use Rattle.decl.specs.Declaration.{Declaration}
use Rattle.traces.specs.Seen.{Seen}
use Rattle.traces.specs.declared.event_id.EventId.{EventId}
use Rattle.traces.specs.Traces.{name_of}
use Rattle.replies.specs.Commands.{Question, IsReadOff}
use Rattle.replies.proofs.Commands.{read_off}
use Rattle.replies.proofs.Elements.{there_some}
use Rattle.session_answers.specs.declared.answers.Answers.{Answers}
use Rattle.session_answers.specs.Ready.{HasNodeOf, AreAnswersOf, declared}
use Rattle.session_answers.specs.Keeping.{HasSlotBy}
use Rattle.session_answers.proofs.Slotting.{slot_found}
use Rattle.session.specs.Stands.{Held, KeepsEvent}

module _ (seen : List (List Seen)) (kept : List EventId) (a : Answers) (are : AreAnswersOf seen kept a) (h : Held) (declares : h.declaration ≡ declared a) (same : h.kept ≡ kept) where
  slot_by : (name : List ℕ) → KeepsEvent h name → HasSlotBy a.graph.roster a.graph.solver name
  slot_by name (k, event, at, is) =
      let here' : slice_get kept k ≡ Some event = ap (λ (xs : List EventId). slice_get xs k) (sym same) ∙ at in
      let inside : k < length kept = slice_get_within kept k event here' in
      let each : length a.graph.solver.kept.slots ≡ length kept = are.slots.each in
      let slot = there_some a.graph.solver.kept.slots k (omega (arith, inside, each)) in
      let known : HasNodeOf a.graph.roster event slot.0.node = are.slots.nodes k event slot.0 here' slot.1 in
      let named : name_of (declared a) event ≡ name = ap (λ (x : Declaration). name_of x event) (sym declares) ∙ is in
      (event, slot.0.node, record { known = known; named = named }, slot_found a.graph.solver.kept.slots k slot.0 slot.1)

  -- what is read off rows of kept events is read off those of slots
  pub from_slots : (q : Question) → IsReadOff (KeepsEvent h) q → IsReadOff (HasSlotBy a.graph.roster a.graph.solver) q
  from_slots = read_off (KeepsEvent h) (HasSlotBy a.graph.roster a.graph.solver) slot_by
