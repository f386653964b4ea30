-- A problem that grows towards that of events and messages under a declaration.
use Rattle.std.proofs.Common.{◌≡◌, ◌≢◌, ◌<◌, ◌+◌, ℕ, List, [], map, take, length, slice_get, Option, Some, is_some, refl, sym, ap, subst}
use Rattle.std.proofs.lemmas.List.{length-map}
use Rattle.std.proofs.lemmas.List.Elements.{All-map}
use Rattle.problem_model.specs.declared.items.Clock.{Clock}
use Rattle.problem_model.specs.declared.items.Event.{Event}
use Rattle.problem_model.specs.declared.items.Message.{Message}
use Rattle.problem_model.specs.Name.{IsClockName}
use Rattle.problem_model.specs.Problem.{ProblemLists}
use Rattle.problem.specs.Line.{HasEvent}
use Rattle.problem.specs.Growing.{IsNewClock, IsNewEvent, IsMessageOfNewPair, with_event, with_message}
use Rattle.decl.specs.Declaration.{Declaration, IsDeclaration, HasLawfulClocks, HasLawfulLabels, follows_of, link_bounds}
use Rattle.traces.specs.declared.event_id.EventId.{EventId}
use Rattle.traces.specs.declared.event_id.Couple.{Couple}
use Rattle.traces.specs.Traces.{Placed, name_of, host_of}
use Rattle.traces.specs.Messages.{bounds_of, event_with, linked, place_of}
use Rattle.traces.specs.Making.{problem_by, IsOneOf, AreEventsOf, AreMessages}
use Rattle.traces.proofs.Lists.{all_at, place_in}
use Rattle.traces.proofs.Whole.{clock_there, all_alike, all_names_differ, apart, ends_apart}
use Rattle.traces.proofs.Places.{name_there, place_within, the_place}
use Rattle.reference_traces.proofs.Taken.{pairs_before, map_next}

-- ---- clocks
-- the problem that has these clocks alone
abbrev pub clocks_alone : List Clock → ProblemLists
clocks_alone clocks = record { clocks = clocks; follows = []; events = []; messages = [] }

pub clock_new : (d : Declaration) → HasLawfulClocks d → (k : ℕ) (c : Clock) → slice_get d.clocks k ≡ Some c → IsNewClock (clocks_alone (take k d.clocks)) c
clock_new d lawful k c at = record {
  named = all_at (λ (c : Clock). IsClockName c.name) d.clocks k c lawful.clock_names at;
  new = pairs_before (λ (a b : Clock). a.name ≢ b.name) d.clocks k c lawful.clocks_differ at;
}

-- ---- events
module _ (d : Declaration) (lawful : IsDeclaration d) (events : List Placed) (are : AreEventsOf d events) where
  pub event_new : (k : ℕ) (e : Placed) → slice_get events k ≡ Some e → IsNewEvent (problem_by d (take k events) []) (event_with d e)
  event_new k e at = record {
    new = All-map (λ (x : Event). x.name ≢ name_of d e.id) (event_with d) (take k events)
        (pairs_before (λ (a b : Placed). name_of d a.id ≢ name_of d b.id) events k e (all_names_differ d lawful events are) at);
    clock = clock_there d e.id lawful.clocks lawful.labels (all_at (λ (x : Placed). x.id.label < length d.labels) events k e are.labels at);
    alike = All-map (λ (x : Event). is_some x.bounds ≡ is_some (bounds_of d e.id)) (event_with d) (take k events)
        (pairs_before (λ (a b : Placed). is_some (bounds_of d a.id) ≡ is_some (bounds_of d b.id)) events k e (all_alike d lawful events are) at);
  }

pub event_more : (d : Declaration) (events : List Placed) (k : ℕ) (e : Placed) → slice_get events k ≡ Some e →
    with_event (problem_by d (take k events) []) (event_with d e) ≡ problem_by d (take (k + 1) events) []
event_more d events k e at = ap (λ (es : List Event). let p : ProblemLists = record { clocks = d.clocks; follows = follows_of d; events = es; messages = [] } in p) (sym (map_next (event_with d) events k e at))

-- ---- messages
module _ (d : Declaration) (events : List Placed) (couples : List Couple) (are : AreEventsOf d events) (messages : AreMessages events couples) where
  send_of : (k : ℕ) (m : Couple) → slice_get couples k ≡ Some m → IsOneOf events m.send
  send_of k m at = all_at (λ (m : Couple). IsOneOf events m.send) couples k m messages.sends at

  receive_of : (k : ℕ) (m : Couple) → slice_get couples k ≡ Some m → IsOneOf events m.receive
  receive_of k m at = all_at (λ (m : Couple). IsOneOf events m.receive) couples k m messages.receives at

  pub message_new : (k : ℕ) (m : Couple) → slice_get couples k ≡ Some m → IsMessageOfNewPair (problem_by d events (take k couples)) (linked d events m)
  message_new k m at = record {
    sends = rw length-map (place_within events m.send are.differ (send_of k m at));
    receives = rw length-map (place_within events m.receive are.differ (receive_of k m at));
    two_ends = ends_apart d events couples are messages m (send_of k m at) (receive_of k m at) (all_at (λ (m : Couple). m.send ≢ m.receive) couples k m messages.two_ends at);
    new = All-map (λ (a : Message). (a.send ≡ place_of events m.send) → (a.receive ≡ place_of events m.receive) → ⊥) (linked d events) (take k couples)
        (pairs_before (λ (a b : Couple). place_of events a.send ≡ place_of events b.send → place_of events a.receive ≡ place_of events b.receive → ⊥) couples k m
        (apart d events couples are messages) at);
  }

pub message_more : (d : Declaration) (events : List Placed) (couples : List Couple) (k : ℕ) (m : Couple) → slice_get couples k ≡ Some m →
    with_message (problem_by d events (take k couples)) (linked d events m) ≡ problem_by d events (take (k + 1) couples)
message_more d events couples k m at =
    ap (λ (ms : List Message). let p : ProblemLists = record { clocks = d.clocks; follows = follows_of d; events = map (event_with d) events; messages = ms } in p) (sym (map_next (linked d events) couples k m at))

-- ---- what the code makes of one event and of one message
-- an event of this id has its name in the problem
pub known : (d : Declaration) (events : List Placed) (ms : List Couple) (id : EventId) → AreEventsOf d events → IsOneOf events id → (k : ℕ) × HasEvent (problem_by d events ms) k (name_of d id)
known d events ms id are one =
    let there : (k : ℕ) × (slice_get events k ≡ Some one.0) = place_in events one.0 one.1 in
    (there.0, subst (λ (x : EventId). HasEvent (problem_by d events ms) there.0 (name_of d x)) one.2 (name_there d events ms there.0 one.0 there.1))

same_message : (s t r u l n : ℕ) (o q : Option ℕ) → s ≡ t → r ≡ u → l ≡ n → o ≡ q →
    (let a : Message = record { send = s; receive = r; least = l; most = o } in a) ≡ (let b : Message = record { send = t; receive = u; least = n; most = q } in b)
same_message s t r u l n o q e f g h = rw (e, f, g, h) refl

-- a message between the events of a couple's names, with the bounds of their hosts' link, is that of the couple
pub linked_is : (d : Declaration) (events : List Placed) (couples : List Couple) (k : ℕ) (m : Couple) (p : ProblemLists) (message : Message) → HasLawfulLabels d → AreEventsOf d events
    → AreMessages events couples → slice_get couples k ≡ Some m → p ≡ problem_by d events (take k couples)
    → HasEvent p message.send (name_of d m.send) → HasEvent p message.receive (name_of d m.receive)
    → ◌≡◌ {A = ℕ × Option ℕ} (message.least, message.most) (link_bounds d (host_of d m.send) (host_of d m.receive)) → message ≡ linked d events m
linked_is d events couples k m p message labels are messages at stands send receive bounds =
    let there : HasEvent (problem_by d events (take k couples)) message.send (name_of d m.send) = subst (λ (q : ProblemLists). HasEvent q message.send (name_of d m.send)) stands send in
    let behind : HasEvent (problem_by d events (take k couples)) message.receive (name_of d m.receive) = subst (λ (q : ProblemLists). HasEvent q message.receive (name_of d m.receive)) stands receive in
    same_message _ _ _ _ _ _ _ _
    (the_place d events (take k couples) m.send message.send labels are (send_of d events couples are messages k m at) there)
    (the_place d events (take k couples) m.receive message.receive labels are (receive_of d events couples are messages k m at) behind)
    (ap (λ (b : ℕ × Option ℕ). b.0) bounds) (ap (λ (b : ℕ × Option ℕ). b.1) bounds)

-- what is made of the couple at place k may be added
pub made_new : (d : Declaration) (events : List Placed) (couples : List Couple) (k : ℕ) (m : Couple) (p : ProblemLists) (message : Message) → AreEventsOf d events → AreMessages events couples
    → slice_get couples k ≡ Some m → p ≡ problem_by d events (take k couples) → message ≡ linked d events m → IsMessageOfNewPair p message
made_new d events couples k m p message are messages at stands is = rw (stands, is) (message_new d events couples are messages k m at)

-- and with it the problem has one couple more
pub made_more : (d : Declaration) (events : List Placed) (couples : List Couple) (k : ℕ) (m : Couple) (p : ProblemLists) (message : Message)
    → slice_get couples k ≡ Some m → p ≡ problem_by d events (take k couples) → message ≡ linked d events m → with_message p message ≡ problem_by d events (take (k + 1) couples)
made_more d events couples k m p message at stands is = rw (stands, is) (message_more d events couples k m at)
