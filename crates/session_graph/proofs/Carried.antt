-- The messages of a roster by number are those of its problem by place.
use Rattle.std.proofs.Common.{◌≡◌, ◌≤◌, ℕ, List, [], map, slice_get, Some, Contains, refl, sym, ◌∙◌, ap, subst}
use Rattle.std.proofs.lemmas.Option.{get_or_from_slice_get}
use Rattle.problem_model.specs.declared.items.Message.{Message}
use Rattle.problem_model.specs.Limits.{most_events}
use Rattle.problem.specs.Line.{HasEvent}
use Rattle.problem.specs.Listing.{name_at}
use Rattle.problem.proofs.ListedNodes.{map_at}
use Rattle.problem_graph.specs.ListedProblem.{StandsAt}
use Rattle.traces.specs.Seen.{Seen}
use Rattle.traces.specs.declared.event_id.EventId.{EventId}
use Rattle.traces.specs.declared.event_id.Couple.{Couple}
use Rattle.traces.specs.Traces.{event_count, events_of, name_of}
use Rattle.traces.specs.Messages.{linked, messages_of, place_of, problem_of_seen}
use Rattle.traces.proofs.MessageEnds.{ends_known}
use Rattle.traces.specs.Making.{IsOneOf}
use Rattle.traces.proofs.Lists.{place_in}
use Rattle.traces.proofs.Places.{the_place}
use Rattle.traces.proofs.Seen.{are_events}
use Rattle.roster.specs.declared.came.Came.{Came}
use Rattle.roster.specs.Groups.{group_at}
use Rattle.roster.specs.Roster.{RosterLists, id_of, event_at, IsRoster, HoldsEvents, listed}
use Rattle.roster.proofs.Problem.{events_are}
use Rattle.roster.proofs.Telling.{among}
use Rattle.roster.proofs.Turns.{from_map, into_map, into_turn}
use Rattle.roster.specs.ByNumber.{IsCarriedMessage, AreCarriedMessages}
use Rattle.roster.specs.Told.{messages_by_number, number_of, numbered_message}
use Rattle.session_graph.proofs.Held.{number_is, labels_many, events_many, id_under}

module _ (r : RosterLists) (is : IsRoster r) (seen : List (List Seen)) (holds : HoldsEvents r seen) where
  abbrev names : List (List ℕ)
  names = map (λ (e : Came). name_of r.declaration (id_of e)) r.came

  -- an event's number is listed at its place
  stands_there : (id : EventId) → IsOneOf (events_of seen) id → StandsAt (listed r) (number_of r.under id) (place_of (events_of seen) id)
  stands_there id one =
      let (v, under) = id_under r is seen holds id one in
      let (k, number, at) = under in
      let e = is.numbered id.label k v at in
      let same : id_of e.0 ≡ id = e.2 ∙ sym (ap (λ (n : ℕ). let i : EventId = record { label = id.label; number = n } in i) number) in
      let node : ℕ = (event_at r.came v).node in
      let place = place_in {X = ℕ × ℕ} (listed r).events (v, node) (into_turn {T = ℕ} {X = ℕ × ℕ} (λ g w. (w, (event_at r.came w).node)) 0 r.under id.label v (among (group_at r.under id.label) k v at)) in
      let named : name_at names v ≡ name_of r.declaration id =
      get_or_from_slice_get names v (name_of r.declaration (id_of e.0)) [] (map_at (λ (x : Came). name_of r.declaration (id_of x)) r.came v e.0 e.1) ∙ ap (name_of r.declaration) same in
      let has : HasEvent (problem_of_seen r.declaration seen) place.0 (name_of r.declaration id) =
      ap (λ (l : List (List ℕ)). slice_get l place.0) (sym (events_are r is seen holds)) ∙ map_at {X = ℕ × ℕ} (λ x. name_at names x.0) (listed r).events place.0 (v, node) place.1 ∙ ap Some named in
      let few : event_count seen ≤ most_events = subst (λ (n : ℕ). n ≤ most_events) (sym (events_many r is seen holds)) is.few in
      let here' : place.0 ≡ place_of (events_of seen) id =
      the_place r.declaration (events_of seen) (messages_of (events_of seen)) id place.0 is.declared.labels (are_events r.declaration seen (labels_many r is seen holds) few) one has in
      (node, subst (λ (p : ℕ). slice_get {X = ℕ × ℕ} (listed r).events p ≡ Some (number_of r.under id, node)) here' (place.1 ∙ ap (λ (w : ℕ). let x : ℕ × ℕ = (w, node) in Some x) (sym (number_is r.under id v under))))

  one_carried : (m : Couple) → Contains (messages_of (events_of seen)) m → IsCarriedMessage (listed r) (numbered_message r m) (linked r.declaration (events_of seen) m)
  one_carried m held =
      let (s, w, in_s, in_w, is_s, is_w) = ends_known (events_of seen) m held in
      record {
        send = stands_there m.send (s, in_s, sym is_s);
        receive = stands_there m.receive (w, in_w, sym is_w);
        least = refl;
        most = refl;
      }

  pub carried : AreCarriedMessages (listed r) (messages_by_number r seen) (problem_of_seen r.declaration seen).messages
  carried = record {
    forth = λ m has. (
        let (c, held, same) = from_map (numbered_message r) (messages_of (events_of seen)) m has in
        let n : Message = linked r.declaration (events_of seen) c in
        (n, into_map (linked r.declaration (events_of seen)) (messages_of (events_of seen)) c held, subst (λ (x : Message). IsCarriedMessage (listed r) x n) same (one_carried c held)));
    back = λ n has. (
        let (c, held, same) = from_map (linked r.declaration (events_of seen)) (messages_of (events_of seen)) n has in
        let m : Message = numbered_message r c in
        (m, into_map (numbered_message r) (messages_of (events_of seen)) c held, subst (λ (x : Message). IsCarriedMessage (listed r) m x) same (one_carried c held)));
  }
