-- What a roster and its graph know once an event has entered.
use Rattle.std.proofs.Common.{◌≡◌, ◌<◌, ℕ, zero, suc, Bool, true, List, [], ◌∷◌, Some, length, map, get_or, set, slice_get, Contains, refl, sym, ◌∙◌, ap, subst, arith, inl, inr}
use Rattle.std.proofs.lemmas.Bool.{cases_lt}
use Rattle.std.proofs.lemmas.List.{length-map}
use Rattle.std.proofs.lemmas.Option.{none-some, same_Some, slice_get_within, get_or_from_slice_get}
use Rattle.problem_model.specs.declared.items.Event.{Event}
use Rattle.problem_model.specs.declared.items.Message.{Message}
use Rattle.problem_model.specs.declared.items.Node.TheVariants as nodes
use Rattle.problem_model.specs.declared.items.Bound.{Bound}
use Rattle.problem_model.specs.declared.items.Bound.TheVariants as bounds
use Rattle.problem_model.specs.declared.items.Bound.TheVariants.{SpanMost, SpanLeast, Late, Early, DelayMost, DelayLeast}
use Rattle.problem_model.specs.Bounds.{Constraint, Declares}
use Rattle.decl.specs.Declaration.{Declaration}
use Rattle.sync_graph.specs.declared.arc.Arc.{Arc}
use Rattle.sync_graph.specs.Graph.{GraphLists, arc_at}
use Rattle.traces.proofs.Members.{none_in}
use Rattle.traces.proofs.Lists.{place_in}
use Rattle.roster.specs.declared.came.Came.{Came}
use Rattle.roster.specs.declared.came.Partner.{Partner}
use Rattle.roster.specs.Readings.{Stamped, Rise}
use Rattle.roster.specs.Roster.{RosterLists, IsGrown}
use Rattle.roster.specs.Entered.{all_events, events_below}
use Rattle.roster.specs.Growing.{IsGrownTo}
use Rattle.roster.specs.Withdrawing.{AreMore, IsDelayOf, Withdraws}
use Rattle.roster.specs.Once.{IsOn}
use Rattle.roster.specs.Rosters.{named_event, problem_by_number}
use Rattle.roster.proofs.Withdrawn.{grown_after}
use Rattle.roster.proofs.Rosters.{more_events}
use Rattle.session_graph.specs.Kept.{HasArcs, KnowsMessages}

pub map_back : {X Y : Type 0} (f : X → Y) (xs : List X) (k : ℕ) (y : Y) → slice_get (map f xs) k ≡ Some y → (x : X) × (slice_get xs k ≡ Some x) × (f x ≡ y)
map_back f [] k y at = absurd (none-some y at)
map_back f (x ∷ xs) zero y at = (x, refl, same_Some (f x) y at)
map_back f (x ∷ xs) (suc k) y at = map_back f xs k y at

-- ---- messages among events that entered
module _ (r : RosterLists) (messages : List Message) (entered : ℕ → Bool) (g : GraphLists) (grown : IsGrownTo (problem_by_number r messages) entered g) (tells : KnowsMessages r messages g)
    (among : (m : Message) → Contains messages m → (entered m.send ≡ true) × (entered m.receive ≡ true)) where
  sends_below : (m : Message) → Contains messages m → m.send < length r.came
  sends_below m has = let told = tells.each m has in slice_get_within r.came m.send told.0 told.2

  receives_below : (m : Message) → Contains messages m → m.receive < length r.came
  receives_below m has = elim (grown.every (DelayLeast m.send m.receive) (m, record { among = has; send_is = refl; receive_is = refl; send_in = (among m has).0; receive_in = (among m has).1 })) [
    | inl none ↦ absurd (none_in (DelayLeast m.send m.receive) none)
    | inr (a, force, name) ↦ (
        let own = grown.each a force in
        let declares : Declares (problem_by_number r messages) (DelayLeast m.send m.receive) own.0 = subst (λ (b : Bound). Declares (problem_by_number r messages) b own.0) name own.1 in
        let from : own.0.from ≡ nodes.Event m.receive = ap (λ (c : Constraint). c.from) declares.4 in
        let event = grown.nodes (nodes.Event m.receive) (a.from, own.2 ∙ ap Some from) in
        let inside : m.receive < length (map (named_event r.declaration) r.came) = slice_get_within (map (named_event r.declaration) r.came) m.receive event.0 event.1.0 in
        omega (arith, inside, length-map r.came (named_event r.declaration)))
  ]

  pub ends_below : (m : Message) → Contains messages m → (m.send < length r.came) × (m.receive < length r.came)
  ends_below m has = (sends_below m has, receives_below m has)

-- ---- an event more
no_delay : (b : Bound) → IsDelayOf [] b → ⊥
no_delay (SpanMost clock s t) delay = delay
no_delay (SpanLeast clock s t) delay = delay
no_delay (Late v) delay = delay
no_delay (Early v) delay = delay
no_delay (bounds.Follow c s d t) delay = delay
no_delay (DelayMost send receive) (m, has, from, to) = none_in m has
no_delay (DelayLeast send receive) (m, has, from, to) = none_in m has

module _ (old new : RosterLists) (label : ℕ) (stamps : List ℕ) (more : IsGrown old new label stamps) (messages : List Message) (g : GraphLists) (grown : IsGrownTo (problem_by_number old messages) all_events g) where
  same_messages : AreMore messages messages (length old.came) []
  same_messages = record { kept = λ m has. inl has; gone = λ m n none. absurd (none_in m none); none = λ m has from to. has }

  none_withdrawn : Withdraws [] g g
  none_withdrawn = record { nodes = refl; each = λ a force. force; gone = λ a force delay. no_delay a.name delay; every = λ a force. inr force }

  pub grown_before : IsGrownTo (problem_by_number new messages) (events_below (length old.came)) g
  grown_before =
      subst (λ (n : ℕ). IsGrownTo (problem_by_number new messages) (events_below n) g) (length-map old.came (named_event old.declaration))
      (grown_after (problem_by_number old messages) (problem_by_number new messages) [] (more_events old new label stamps messages messages [] more same_messages) g g none_withdrawn grown)

-- ---- events that are told of their nodes are the same ones
pub told_named : (d : Declaration) (came : List Came) (v : ℕ) (e f : Came) → slice_get came v ≡ Some e → named_event d f ≡ named_event d e → map (named_event d) (set came v f) ≡ map (named_event d) came
told_named d [] v e f at same = refl
told_named d (x ∷ came) zero e f at same = ap (λ (y : Event). y ∷ map (named_event d) came) (same ∙ ap (named_event d) (sym (same_Some x e at)))
told_named d (x ∷ came) (suc v) e f at same = ap (λ (ys : List Event). named_event d x ∷ ys) (told_named d came v e f at same)

-- ---- one reading has one stamp
module _ (readings : List Stamped) (rise : Rise readings) where
  rises : (i j : ℕ) (a b : Stamped) → slice_get readings i ≡ Some a → slice_get readings j ≡ Some b → i < j → a.0 < b.0
  rises i j a b at at' less =
      let before : (get_or readings i a).0 < (get_or readings j a).0 = rise i j a less (slice_get_within readings j b at') in
      let first : (get_or readings i a).0 ≡ a.0 = ap (λ (s : Stamped). s.0) (get_or_from_slice_get readings i a a at) in
      let second : (get_or readings j a).0 ≡ b.0 = ap (λ (s : Stamped). s.0) (get_or_from_slice_get readings j b a at') in
      omega (arith, before, first, second)

  pub one_place : (i j : ℕ) (a b : Stamped) → slice_get readings i ≡ Some a → slice_get readings j ≡ Some b → a.0 ≡ b.0 → i ≡ j
  one_place i j a b at at' same = elim (cases_lt i j) [
    | inl less ↦ absurd (let x = rises i j a b at at' less in omega (arith, x, same))
    | inr past ↦ elim (cases_lt j i) [
      | inl less ↦ absurd (let x = rises j i b a at' at less in omega (arith, x, same))
      | inr past' ↦ omega (arith, past, past')
    ]
  ]

  pub one_reading : (a b : Stamped) → Contains readings a → Contains readings b → a.0 ≡ b.0 → a ≡ b
  one_reading a b has has' same =
      let i = place_in readings a has in
      let j = place_in readings b has' in
      let place : i.0 ≡ j.0 = one_place i.0 j.0 a b i.1 j.1 same in
      same_Some a b (sym i.1 ∙ ap (slice_get readings) place ∙ j.1)

-- ---- messages
-- events have the partners that they had, those that are more have none, and arcs stay
pub tells_still : (old new : RosterLists) (messages : List Message) (g h : GraphLists)
    → ((v : ℕ) (e : Came) → slice_get old.came v ≡ Some e → (f : Came) × (slice_get new.came v ≡ Some f) × (f.partner ≡ e.partner))
    → ((v : ℕ) (f : Came) (p : Partner) → slice_get new.came v ≡ Some f → f.partner ≡ Some p → (e : Came) × (slice_get old.came v ≡ Some e) × (e.partner ≡ Some p))
    → ((k : ℕ) → IsOn g k → IsOn h k × (arc_at h.arcs k ≡ arc_at g.arcs k))
    → KnowsMessages old messages g → KnowsMessages new messages h
tells_still old new messages g h forth back stay tells = record {
  each = λ m has. (
      let (e, arc, at, partner, arcs) = tells.each m has in
      let (f, at', same) = forth m.send e at in
      (f, arc, at', same ∙ partner, arcs_still m arc arcs));
  only = λ v f p at partner. (let (e, at', same) = back v f p at partner in tells.only v e p at' same);
}
  where
    arcs_still : (m : Message) (arc : ℕ) → HasArcs g m arc → HasArcs h m arc
    arcs_still m arc has = record {
      on = (stay arc has.on).0;
      least = ap (λ (a : Arc). a.name) (stay arc has.on).1 ∙ has.least;
      most = λ w is. (let (k, next, on, name) = has.most w is in (k, next, (stay k on).0, ap (λ (a : Arc). a.name) (stay k on).1 ∙ name));
    }
