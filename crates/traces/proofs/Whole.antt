-- The problem of events and messages under a declaration is lawful.
use Rattle.std.proofs.Common.{◌≡◌, ◌≢◌, ◌<◌, ◌≤◌, ◌^◌, ℕ, zero, suc, List, [], ◌∷◌, map, length, get_or, slice_get, Option, Some, None, is_some, option_map, unwrap_or, All, AllPairs, IfSome, Bool, true, false, ◌==◌, ◌&&◌, if◌then◌else◌, refl, sym, ◌∙◌, ap, arith}
use Rattle.std.specs.Prelude.{option_and_then}
use Rattle.std.proofs.lemmas.List.{length-map}
use Rattle.std.proofs.lemmas.List.Elements.{All-map, All-head, All-tail}
use Rattle.std.proofs.lemmas.Option.{slice_get_within}
use Rattle.problem_model.specs.declared.items.Clock.{Clock}
use Rattle.problem_model.specs.declared.items.Event.{Event}
use Rattle.problem_model.specs.declared.items.Message.{Message}
use Rattle.problem_model.specs.declared.items.StampBounds.{StampBounds}
use Rattle.problem_model.specs.Name.{IsClockName, IsEventName}
use Rattle.problem_model.specs.Problem.{ClockFits, EventFits, IsProblem, MessageFits}
use Rattle.problem_model.specs.Limits.{most_events}
use Rattle.decl.specs.declared.items.Label.{Label}
use Rattle.decl.specs.declared.items.Link.{Link}
use Rattle.decl.specs.Declaration.{Declaration, IsDeclaration, HasLawfulClocks, HasLawfulLabels, IsClockOf, LabelFits, LinkFits, bounds_among, bounds_at, bounds_with, has_own_bounds, own_bounds}
use Rattle.decl.proofs.Following.{follows_lead, earliers_differ, laters_differ, gaps_fit}
use Rattle.traces.specs.declared.event_id.EventId.{EventId}
use Rattle.traces.specs.declared.event_id.Couple.{Couple}
use Rattle.traces.specs.Traces.{Placed, name_of, clock_by, clock_of}
use Rattle.traces.specs.Messages.{bounds_of, event_with, linked, place_of}
use Rattle.traces.specs.Making.{problem_by, IsOneOf, AreEventsOf, AreMessages}
use Rattle.traces.proofs.Lists.{got, all_at, pairs_map}
use Rattle.traces.proofs.Names.{named, name_at, names_differ}
use Rattle.traces.proofs.Places.{place_one, place_within}

-- ---- events
pub clock_there : (d : Declaration) (id : EventId) → HasLawfulClocks d → HasLawfulLabels d → id.label < length d.labels → clock_of d id < length d.clocks
clock_there d id clocks labels within =
    let l : (l : Label) × (slice_get d.labels id.label ≡ Some l) = got d.labels id.label within in
    let own : IsClockOf d.owners l.0.host l.0.clock = all_at (λ (l : Label). IsClockOf d.owners l.host l.clock) d.labels id.label l.0 labels.label_clocks l.1 in
    rw l.1 (omega (arith, slice_get_within d.owners l.0.clock own.0 own.1, clocks.clocks_owned))

-- ---- bounds
-- bounds are in their ranges
abbrev OwnFit : StampBounds → Type 0
OwnFit own = (own.early < 2 ^ 62) × (own.late < 2 ^ 62)

own_or_clock : (o : Option ℕ) (n : ℕ) → IfSome o (λ m. m < 2 ^ 62) → n < 2 ^ 62 → unwrap_or o n < 2 ^ 62
own_or_clock None n own low = low
own_or_clock (Some m) n own low = own

at_clock : (l : Label) (clocks : List Clock) (k : ℕ) → LabelFits l → All ClockFits clocks → IfSome (option_map (bounds_with l) (slice_get clocks k)) OwnFit
at_clock l [] zero own all = tt
at_clock l [] (suc k) own all = tt
at_clock l (c ∷ clocks) zero own all =
    let fits = All-head ClockFits c clocks all in (own_or_clock l.early c.early own.0 fits.2, own_or_clock l.late c.late own.1 fits.3)
at_clock l (c ∷ clocks) (suc k) own all = at_clock l clocks k own (All-tail ClockFits c clocks all)

where_given : (b : Bool) (o : Option StampBounds) → IfSome o OwnFit → IfSome (if b then o else None) OwnFit
where_given true o fits = fits
where_given false o fits = tt

-- the bounds of an event are in their ranges
pub own_fit : (d : Declaration) (id : EventId) → HasLawfulClocks d → HasLawfulLabels d → IfSome (bounds_of d id) OwnFit
own_fit d id clocks labels = by_label (slice_get d.labels id.label) refl
  where
    by_label : (o : Option Label) → slice_get d.labels id.label ≡ o → IfSome (option_and_then (own_bounds d) o) OwnFit
    by_label None at = tt
    by_label (Some l) at = where_given (has_own_bounds d) (bounds_at d l) (at_clock l d.clocks l.clock (all_at LabelFits d.labels id.label l labels.labels_fit at) clocks.clocks_fit)

some_where_given : (b : Bool) (o : Option StampBounds) → is_some o ≡ true → is_some (if b then o else None) ≡ b
some_where_given true o there = there
some_where_given false o there = refl

-- each event has bounds of its own exactly where the declaration gives any
pub bounds_given : (d : Declaration) (id : EventId) → HasLawfulClocks d → HasLawfulLabels d → id.label < length d.labels → is_some (bounds_of d id) ≡ has_own_bounds d
bounds_given d id clocks labels within =
    let l : (l : Label) × (slice_get d.labels id.label ≡ Some l) = got d.labels id.label within in
    let inside : clock_of d id < length d.clocks = clock_there d id clocks labels within in
    let c : (c : Clock) × (slice_get d.clocks (clock_of d id) ≡ Some c) = got d.clocks (clock_of d id) inside in
    let on : slice_get d.clocks l.0.clock ≡ Some c.0 = ap (λ (o : Option Label). slice_get d.clocks (clock_by o)) (sym l.1) ∙ c.1 in
    ap (λ (o : Option Label). is_some (option_and_then (own_bounds d) o)) l.1
    ∙ some_where_given (has_own_bounds d) (bounds_at d l.0) (ap (λ (o : Option Clock). is_some (option_map (bounds_with l.0) o)) on)

event_named : (d : Declaration) (id : EventId) → HasLawfulLabels d → id.label < length d.labels → id.number ≤ most_events → IsEventName (name_of d id)
event_named d id labels within small =
    let l : (l : Label) × (slice_get d.labels id.label ≡ Some l) = got d.labels id.label within in
    rw (name_at d id l.0 l.1) (named l.0.name id.number (all_at (λ (l : Label). IsClockName l.name) d.labels id.label l.0 labels.label_names l.1) (omega (arith, small)))

module _ (d : Declaration) (lawful : IsDeclaration d) (events : List Placed) (are : AreEventsOf d events) where
  pub all_alike : AllPairs (λ (a b : Placed). is_some (bounds_of d a.id) ≡ is_some (bounds_of d b.id)) events
  all_alike i j x less within =
      bounds_given d (get_or events i x).id lawful.clocks lawful.labels (are.labels i x (omega (arith, less, within)))
      ∙ sym (bounds_given d (get_or events j x).id lawful.clocks lawful.labels (are.labels j x within))

  pub all_names_differ : AllPairs (λ (a b : Placed). name_of d a.id ≢ name_of d b.id) events
  all_names_differ i j x less within =
      names_differ d _ _ lawful.labels.label_names lawful.labels.labels_rise (are.labels i x (omega (arith, less, within))) (are.labels j x within) (are.differ i j x less within)

-- ---- messages
module _ (d : Declaration) (events : List Placed) (couples : List Couple) (are : AreEventsOf d events) (messages : AreMessages events couples) where
  -- two messages go from two places
  abbrev pub Apart : Couple → Couple → Type 0
  Apart a b = place_of events a.send ≡ place_of events b.send → place_of events a.receive ≡ place_of events b.receive → ⊥

  pub apart : AllPairs Apart couples
  apart i j x less within same also =
      messages.differ i j x less within (place_one events _ _ are.differ (messages.sends i x (omega (arith, less, within))) (messages.sends j x within) same)

  pub ends_apart : (m : Couple) → IsOneOf events m.send → IsOneOf events m.receive → m.send ≢ m.receive → place_of events m.send ≢ place_of events m.receive
  ends_apart m s r two same = two (place_one events m.send m.receive are.differ s r same)

-- ---- the whole problem is lawful
-- the bounds of a link are in their ranges
abbrev BoundsFit : ℕ × Option ℕ → Type 0
BoundsFit b = (b.0 < 2 ^ 62) × IfSome b.1 (λ most. most < 2 ^ 62)

either_fits : (b : Bool) (x y : ℕ × Option ℕ) → BoundsFit x → BoundsFit y → BoundsFit (if b then x else y)
either_fits true x y p q = p
either_fits false x y p q = q

bounds_fit : (links : List Link) (from to : ℕ) → All LinkFits links → BoundsFit (bounds_among links from to)
bounds_fit [] from to all = (omega arith, tt)
bounds_fit (l ∷ more) from to all =
    either_fits (l.from == from && l.to == to) (l.least, l.most) (bounds_among more from to) (All-head LinkFits l more all) (bounds_fit more from to (All-tail LinkFits l more all))

module _ (d : Declaration) (lawful : IsDeclaration d) (events : List Placed) (couples : List Couple) (are : AreEventsOf d events) (messages : AreMessages events couples) where
  pub is_problem : All (λ (e : Placed). e.seen.stamp < 2 ^ 62) events → IsProblem (problem_by d events couples)
  is_problem stamps = record {
    formed = record {
      clock_names = lawful.clocks.clock_names;
      clocks_differ = lawful.clocks.clocks_differ;
      follow_ends = follows_lead d lawful;
      earliers_differ = earliers_differ d;
      laters_differ = laters_differ d;
      event_names = All-map (λ (e : Event). IsEventName e.name) (event_with d) events (λ k x within. event_named d (get_or events k x).id lawful.labels (are.labels k x within) (are.numbers k x within));
      events_differ = pairs_map (λ (a b : Event). a.name ≢ b.name) (event_with d) events (all_names_differ d lawful events are);
      bounds_alike = pairs_map (λ (a b : Event). is_some a.bounds ≡ is_some b.bounds) (event_with d) events (all_alike d lawful events are);
      event_clocks = All-map (λ (e : Event). e.clock < length d.clocks) (event_with d) events (λ k x within. clock_there d (get_or events k x).id lawful.clocks lawful.labels (are.labels k x within));
      sends = All-map (λ (m : Message). m.send < length (map (event_with d) events)) (linked d events) couples
          (λ k x within. rw length-map (place_within events _ are.differ (messages.sends k x within)));
      receives = All-map (λ (m : Message). m.receive < length (map (event_with d) events)) (linked d events) couples
          (λ k x within. rw length-map (place_within events _ are.differ (messages.receives k x within)));
      two_ends = All-map (λ (m : Message). m.send ≢ m.receive) (linked d events) couples
          (λ k x within. ends_apart d events couples are messages _ (messages.sends k x within) (messages.receives k x within) (messages.two_ends k x within));
      messages_differ = pairs_map (λ (a b : Message). (a.send ≡ b.send) → (a.receive ≡ b.receive) → ⊥) (linked d events) couples (apart d events couples are messages);
    };
    fits = record {
      clocks_fit = lawful.clocks.clocks_fit;
      clock_limit = lawful.limits.clock_limit;
      gaps_fit = gaps_fit d lawful;
      events_fit = All-map EventFits (event_with d) events (λ k x within. (stamps k x within, own_fit d (get_or events k x).id lawful.clocks lawful.labels));
      event_limit = rw length-map are.limit;
      messages_fit = All-map MessageFits (linked d events) couples (λ k x within. bounds_fit d.links _ _ lawful.links.links_fit);
      message_limit = rw length-map messages.limit;
    };
  }
