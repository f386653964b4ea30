-- Events by their ids: the places where they stand, and their places in the problem that is made of them.
use Rattle.std.proofs.Common.{◌≡◌, ◌≢◌, ◌<◌, ℕ, List, map, length, get_or, slice_get, Some, AllPairs, true, false, ◌⊎◌, inl, inr, refl, sym, ◌∙◌, ap, subst, arith}
use Rattle.std.specs.Option.{option_map}
use Rattle.std.proofs.lemmas.Bool.Decides.{eqb_tells}
use Rattle.std.proofs.lemmas.List.{length-map}
use Rattle.std.proofs.lemmas.Option.{slice_get-map, slice_get_read, slice_get_within, same_Some}
use Rattle.problem_model.specs.declared.items.Event.{Event}
use Rattle.problem_model.specs.Problem.{ProblemLists}
use Rattle.decl.specs.Declaration.{Declaration, HasLawfulLabels}
use Rattle.traces.specs.declared.event_id.EventId.{EventId}
use Rattle.traces.specs.declared.event_id.Couple.{Couple}
use Rattle.traces.specs.declared.event_id.PlacedEvent.{PlacedEvent}
use Rattle.traces.specs.Traces.{Placed, is_same, name_of}
use Rattle.traces.specs.Held.{placed_in, placed_of}
use Rattle.traces.specs.Messages.{event_with, place_of}
use Rattle.traces.specs.Making.{problem_by, IsOneOf, AreEventsOf}
use Rattle.traces.proofs.Lists.{got, place_in, all_at, pair_at, only_at}
use Rattle.traces.proofs.Names.{id_same, names_differ}

-- ---- ids
-- whether two ids are one
ids_tell : (a b : EventId) → ((is_same a b ≡ true) × (a ≡ b)) ⊎ ((is_same a b ≡ false) × (a ≢ b))
ids_tell a b = elim (eqb_tells a.label b.label) [
  | inl l ↦ elim (eqb_tells a.number b.number) [
    | inl n ↦ inl (rw (l.0, n.0) refl, id_same a b l.1 n.1)
    | inr n ↦ inr (rw (l.0, n.0) refl, λ e. n.1 (ap (λ (x : EventId). x.number) e))
  ]
  | inr l ↦ inr (rw l.0 refl, λ e. l.1 (ap (λ (x : EventId). x.label) e))
]

same_yes : (a b : EventId) → a ≡ b → is_same a b ≡ true
same_yes a b e = elim (ids_tell a b) [ inl w ↦ w.0 | inr w ↦ absurd (w.1 e) ]

same_no : (a b : EventId) → a ≢ b → is_same a b ≡ false
same_no a b two = elim (ids_tell a b) [ inl w ↦ absurd (two w.1) | inr w ↦ w.0 ]

-- ---- places among events whose ids differ
abbrev pub Differ : List Placed → Type 0
Differ events = AllPairs (λ a b. a.id ≢ b.id) events

-- the event at its place is the first with its id
pub place_is : (events : List Placed) (k : ℕ) (e : Placed) → Differ events → slice_get events k ≡ Some e → place_of events e.id ≡ k
place_is events k e differ at = only_at (λ (x : Placed). is_same x.id e.id) events k e at (same_yes e.id e.id refl)
    (λ i v less there. same_no v.id e.id (pair_at (λ a b. a.id ≢ b.id) events i k v e differ less there at))

-- the place of an id, with the event there
pub stands : (events : List Placed) (id : EventId) → Differ events → IsOneOf events id → (e : Placed) × (slice_get events (place_of events id) ≡ Some e) × (e.id ≡ id)
stands events id differ one =
    let there : (k : ℕ) × (slice_get events k ≡ Some one.0) = place_in events one.0 one.1 in
    let place : place_of events id ≡ there.0 = subst (λ (x : EventId). place_of events x ≡ there.0) one.2 (place_is events there.0 one.0 differ there.1) in
    (one.0, subst (λ n. slice_get events n ≡ Some one.0) (sym place) there.1, one.2)

pub place_within : (events : List Placed) (id : EventId) → Differ events → IsOneOf events id → place_of events id < length events
place_within events id differ one = let s = stands events id differ one in slice_get_within events (place_of events id) s.0 s.1

-- two ids at one place are one
pub place_one : (events : List Placed) (a b : EventId) → Differ events → IsOneOf events a → IsOneOf events b → place_of events a ≡ place_of events b → a ≡ b
place_one events a b differ one two same =
    let x = stands events a differ one in
    let y = stands events b differ two in
    let both : slice_get events (place_of events a) ≡ Some y.0 = subst (λ n. slice_get events n ≡ Some y.0) (sym same) y.1 in
    let equal : x.0 ≡ y.0 = same_Some x.0 y.0 (sym x.1 ∙ both) in
    sym x.2 ∙ ap (λ (e : Placed). e.id) equal ∙ y.2

-- ---- places in the problem
-- what has an id is under a label
pub label_of : (d : Declaration) (events : List Placed) (id : EventId) → AreEventsOf d events → IsOneOf events id → id.label < length d.labels
label_of d events id are one =
    let there : (k : ℕ) × (slice_get events k ≡ Some one.0) = place_in events one.0 one.1 in
    subst (λ (x : EventId). x.label < length d.labels) one.2 (all_at (λ (e : Placed). e.id.label < length d.labels) events there.0 one.0 are.labels there.1)

-- the event of a number has this name in a problem
abbrev pub HasName : ProblemLists → ℕ → List ℕ → Type 0
HasName p k name = slice_get (map (λ (e : Event). e.name) p.events) k ≡ Some name

-- the event at a place has its name in the problem
pub name_there : (d : Declaration) (events : List Placed) (ms : List Couple) (k : ℕ) (e : Placed) → slice_get events k ≡ Some e → HasName (problem_by d events ms) k (name_of d e.id)
name_there d events ms k e at =
    slice_get-map (λ (x : Event). x.name) (map (event_with d) events) k
    ∙ ap (option_map (λ (x : Event). x.name)) (slice_get-map (event_with d) events k ∙ ap (option_map (event_with d)) at)

-- the event of a name stands at the place of its id
pub the_place : (d : Declaration) (events : List Placed) (ms : List Couple) (id : EventId) (k : ℕ) → HasLawfulLabels d → AreEventsOf d events → IsOneOf events id
    → HasName (problem_by d events ms) k (name_of d id) → k ≡ place_of events id
the_place d events ms id k labels are one has =
    let within : k < length events = omega (arith, length-map events (event_with d), length-map (map (event_with d) events) (λ (x : Event). x.name), slice_get_within _ k _ has) in
    let e : (x : Placed) × (slice_get events k ≡ Some x) = got events k within in
    let mine : k ≡ place_of events e.0.id = sym (place_is events k e.0 are.differ e.1) in
    let same : name_of d e.0.id ≡ name_of d id = same_Some _ _ (sym (name_there d events ms k e.0 e.1) ∙ has) in
    elim (ids_tell e.0.id id) [
      | inl w ↦ subst (λ (x : EventId). k ≡ place_of events x) w.1 mine
      | inr w ↦ absurd (names_differ d e.0.id id labels.label_names labels.labels_rise
          (all_at (λ (x : Placed). x.id.label < length d.labels) events k e.0 are.labels e.1) (label_of d events id are one) w.1 same)
    ]

-- ---- an event that is placed
pub placed_at : (events : List PlacedEvent) (k : ℕ) (e : PlacedEvent) → k < length events → e ≡ get_or events k e → slice_get (placed_in events) k ≡ Some (placed_of e)
placed_at events k e within is = slice_get-map placed_of events k ∙ ap (option_map placed_of) (slice_get_read events (length events) k e refl within is)
