-- A problem that grows keeps its rules.
use Rattle.std.proofs.Common.{◌≡◌, ◌≢◌, ◌<◌, ◌^◌, ℕ, suc, List, [], ◌∷◌, ◌++◌, length, map, slice_get, get_or, Some, is_some, All, AllPairs, Bool, true, false, IsTrue, ◌↔◌, zero, refl, sym, ◌∙◌, ap, arith, length-append}
use mathlib.Core.Bool.{beq}
use Rattle.std.specs.List.{AllByRecursion}
use Rattle.std.proofs.lemmas.List.Quantifiers.{all_pairs_push}
use Rattle.std.proofs.lemmas.List.Elements.{All-push, All-from_recursion, recursion_from_All}
use Rattle.std.proofs.lemmas.List.{map-append}
use Rattle.problem_model.specs.declared.items.Clock.{Clock}
use Rattle.problem_model.specs.declared.items.Event.{Event}
use Rattle.problem_model.specs.declared.items.Follow.{Follow}
use Rattle.problem_model.specs.declared.items.Message.{Message}
use Rattle.problem_model.specs.Name.{IsClockName, IsEventName}
use Rattle.problem_model.specs.Problem.{ProblemLists, IsProblem, ClockFits, EventFits, MessageFits, LeadsOn}
use Rattle.problem_model.specs.ChainNumbers.{with_follow}
use Rattle.problem.specs.Growing.{IsNewClock, IsNewFollow, IsNewEvent, IsNewPair, IsMessageOfNewPair, HasRoomForClock, HasRoomForEvent, HasRoomForMessage, with_clock, with_event, with_message}
use Rattle.problem.specs.Inside.{AreProblemItems, AreLinks}
use Rattle.problem.specs.declared.chains.Link.{Link}
use Rattle.problem.proofs.OneLink.{lone}
use Rattle.problem.proofs.Linked.{links_clock, links_event, links_message}

-- ---- a key that stands at no place differs from each
module _ {A K : Type 0} (key : A → K) where
  pub absent : (xs : List A) (k : K) → ((n : ℕ) → slice_get (map key xs) n ≡ Some k → ⊥) → All (λ x. key x ≢ k) xs
  absent xs k none = All-from_recursion (λ x. key x ≢ k) xs (each xs none)
    where
      each : (xs : List A) → ((n : ℕ) → slice_get (map key xs) n ≡ Some k → ⊥) → AllByRecursion (λ x. key x ≢ k) xs
      each [] none = tt
      each (x ∷ xs) none = ((λ e. none 0 (ap Some e)), each xs (λ n at. none (suc n) at))

  pub at_none : (xs : List A) (k : K) → All (λ x. key x ≢ k) xs → (n : ℕ) → slice_get (map key xs) n ≡ Some k → ⊥
  at_none xs k all = each xs (recursion_from_All (λ x. key x ≢ k) xs all)
    where
      each : (xs : List A) → AllByRecursion (λ x. key x ≢ k) xs → (n : ℕ) → slice_get (map key xs) n ≡ Some k → ⊥
      each [] all n at = absurd cc
      each (x ∷ xs) all zero at = all.0 cc
      each (x ∷ xs) all (suc n) at = each xs all.1 n at

abbrev pub pair_of : Message → ℕ × ℕ
pair_of m = (m.send, m.receive)

first_of_pair : ℕ × ℕ → ℕ
first_of_pair p = p.0

second_of_pair : ℕ × ℕ → ℕ
second_of_pair p = p.1

-- no message has this pair of events
pub pair_absent : (ms : List Message) (s r : ℕ) → ((n : ℕ) → slice_get {X = ℕ × ℕ} (map pair_of ms) n ≡ Some (s, r) → ⊥) → All (λ a. (a.send ≡ s) → (a.receive ≡ r) → ⊥) ms
pair_absent ms s r none k d inside = λ e f. absent pair_of ms (s, r) none k d inside (rw (e, f) refl)

pub pair_at_none : (ms : List Message) (s r : ℕ) → All (λ a. (a.send ≡ s) → (a.receive ≡ r) → ⊥) ms → (n : ℕ) → slice_get {X = ℕ × ℕ} (map pair_of ms) n ≡ Some (s, r) → ⊥
unfolding first_of_pair second_of_pair
pair_at_none ms s r all = at_none pair_of ms (s, r) (λ k d inside e. all k d inside (ap first_of_pair e) (ap second_of_pair e))

-- ---- the bounds of events
-- each has bounds of its own as the first one has, or none
pub as_first : (e : Event) (es : List Event) → AllPairs (λ a b. is_some a.bounds ≡ is_some b.bounds) (e ∷ es) → All (λ x. is_some x.bounds ≡ is_some e.bounds) (e ∷ es)
as_first e es pairs = λ k d inside. at_place k d inside
  where
    at_place : (k : ℕ) (d : Event) → k < length (e ∷ es) → is_some (get_or (e ∷ es) k d).bounds ≡ is_some e.bounds
    at_place zero d inside = refl
    at_place (suc k) d inside = sym (pairs zero (suc k) d (omega arith) inside)

-- so whether all have them as another has is told by the first
pub alike_as_first : (x : Event) (xs es : List Event) (own : Bool) → es ≡ x ∷ xs → AllPairs (λ a b. is_some a.bounds ≡ is_some b.bounds) es → is_some x.bounds ≡ own → All (λ e. is_some e.bounds ≡ own) es
alike_as_first x xs es own is pairs same = rw is (λ k d inside. as_first x xs (rw is at pairs) k d inside ∙ same)

pub first_of_alike : (x : Event) (xs es : List Event) (own : Bool) → es ≡ x ∷ xs → All (λ e. is_some e.bounds ≡ own) es → is_some x.bounds ≡ own
first_of_alike x xs es own is all = let all' : All (λ (e : Event). is_some e.bounds ≡ own) (x ∷ xs) = rw is at all in all' zero x (omega arith)

-- the test of the first one tells whether all have bounds of their own, or none has, as another one
same_by : (a b : Bool) → IsTrue (beq a b) → a ≡ b
same_by true true same = refl
same_by false false same = refl
same_by true false same = absurd cc
same_by false true same = absurd cc

by_same : (a b : Bool) → a ≡ b → IsTrue (beq a b)
by_same true true same = refl
by_same false false same = refl
by_same true false same = absurd cc
by_same false true same = absurd cc

pub alike_by_first : (es : List Event) (x : Event) (a own : Bool) → slice_get es 0 ≡ Some x → AllPairs (λ a b. is_some a.bounds ≡ is_some b.bounds) es → a ≡ is_some x.bounds → IsTrue (beq a own) ↔ All (λ e. is_some e.bounds ≡ own) es
alike_by_first [] x a own at pairs is = absurd cc
alike_by_first (y ∷ es) x a own at pairs is =
    let first : y ≡ x = cc in
    let is' : a ≡ is_some y.bounds = is ∙ ap (λ (e : Event). is_some e.bounds) (sym first) in (
      (λ yes. alike_as_first y es (y ∷ es) own refl pairs (sym is' ∙ same_by a own yes)),
      (λ all. by_same a own (is' ∙ first_of_alike y es (y ∷ es) own refl all)),
    )

-- ---- the rules
pub more_clock : (p : ProblemLists) (c : Clock) → IsProblem p → ClockFits c → IsNewClock p c → HasRoomForClock p → IsProblem (with_clock p c)
more_clock p c lawful fits new room = record {
  formed = record {
    clock_names = All-push (λ x. IsClockName x.name) p.clocks c lawful.formed.clock_names new.named;
    clocks_differ = all_pairs_push (λ a b. a.name ≢ b.name) p.clocks c lawful.formed.clocks_differ new.new;
    follow_ends = λ k d inside. let ends = lawful.formed.follow_ends k d inside in (ends.0, rw length-append (let end = ends.1 in omega (arith, end)));
    earliers_differ = lawful.formed.earliers_differ;
    laters_differ = lawful.formed.laters_differ;
    event_names = lawful.formed.event_names;
    events_differ = lawful.formed.events_differ;
    bounds_alike = lawful.formed.bounds_alike;
    event_clocks = λ k d inside. rw length-append (omega (arith, lawful.formed.event_clocks k d inside));
    sends = lawful.formed.sends;
    receives = lawful.formed.receives;
    two_ends = lawful.formed.two_ends;
    messages_differ = lawful.formed.messages_differ;
  };
  fits = record {
    clocks_fit = All-push ClockFits p.clocks c lawful.fits.clocks_fit fits;
    clock_limit = grind (arith, length-append, room);
    gaps_fit = lawful.fits.gaps_fit;
    events_fit = lawful.fits.events_fit;
    event_limit = lawful.fits.event_limit;
    messages_fit = lawful.fits.messages_fit;
    message_limit = lawful.fits.message_limit;
  };
}

pub more_follow : (p : ProblemLists) (f : Follow) → IsProblem p → f.gap < 2 ^ 62 → IsNewFollow p f → IsProblem (with_follow p f)
more_follow p f lawful fits new = record {
  formed = record {
    clock_names = lawful.formed.clock_names;
    clocks_differ = lawful.formed.clocks_differ;
    follow_ends = All-push (LeadsOn p.clocks) p.follows f lawful.formed.follow_ends new.leads;
    earliers_differ = all_pairs_push (λ a b. a.earlier ≢ b.earlier) p.follows f lawful.formed.earliers_differ new.earlier_new;
    laters_differ = all_pairs_push (λ a b. a.later ≢ b.later) p.follows f lawful.formed.laters_differ new.later_new;
    event_names = lawful.formed.event_names;
    events_differ = lawful.formed.events_differ;
    bounds_alike = lawful.formed.bounds_alike;
    event_clocks = lawful.formed.event_clocks;
    sends = lawful.formed.sends;
    receives = lawful.formed.receives;
    two_ends = lawful.formed.two_ends;
    messages_differ = lawful.formed.messages_differ;
  };
  fits = record {
    clocks_fit = lawful.fits.clocks_fit;
    clock_limit = lawful.fits.clock_limit;
    gaps_fit = All-push (λ x. x.gap < 2 ^ 62) p.follows f lawful.fits.gaps_fit fits;
    events_fit = lawful.fits.events_fit;
    event_limit = lawful.fits.event_limit;
    messages_fit = lawful.fits.messages_fit;
    message_limit = lawful.fits.message_limit;
  };
}

pub more_event : (p : ProblemLists) (e : Event) → IsProblem p → IsEventName e.name → EventFits e → IsNewEvent p e → HasRoomForEvent p → IsProblem (with_event p e)
more_event p e lawful named fits new room = record {
  formed = record {
    clock_names = lawful.formed.clock_names;
    clocks_differ = lawful.formed.clocks_differ;
    follow_ends = lawful.formed.follow_ends;
    earliers_differ = lawful.formed.earliers_differ;
    laters_differ = lawful.formed.laters_differ;
    event_names = All-push (λ x. IsEventName x.name) p.events e lawful.formed.event_names named;
    events_differ = all_pairs_push (λ a b. a.name ≢ b.name) p.events e lawful.formed.events_differ new.new;
    bounds_alike = all_pairs_push (λ a b. is_some a.bounds ≡ is_some b.bounds) p.events e lawful.formed.bounds_alike new.alike;
    event_clocks = All-push (λ x. x.clock < length p.clocks) p.events e lawful.formed.event_clocks new.clock;
    sends = λ k d inside. rw length-append (omega (arith, lawful.formed.sends k d inside));
    receives = λ k d inside. rw length-append (omega (arith, lawful.formed.receives k d inside));
    two_ends = lawful.formed.two_ends;
    messages_differ = lawful.formed.messages_differ;
  };
  fits = record {
    clocks_fit = lawful.fits.clocks_fit;
    clock_limit = lawful.fits.clock_limit;
    gaps_fit = lawful.fits.gaps_fit;
    events_fit = All-push EventFits p.events e lawful.fits.events_fit fits;
    event_limit = grind (arith, length-append, room);
    messages_fit = lawful.fits.messages_fit;
    message_limit = lawful.fits.message_limit;
  };
}

pub more_message : (p : ProblemLists) (m : Message) → IsProblem p → MessageFits m → IsMessageOfNewPair p m → HasRoomForMessage p → IsProblem (with_message p m)
more_message p m lawful fits new room = record {
  formed = record {
    clock_names = lawful.formed.clock_names;
    clocks_differ = lawful.formed.clocks_differ;
    follow_ends = lawful.formed.follow_ends;
    earliers_differ = lawful.formed.earliers_differ;
    laters_differ = lawful.formed.laters_differ;
    event_names = lawful.formed.event_names;
    events_differ = lawful.formed.events_differ;
    bounds_alike = lawful.formed.bounds_alike;
    event_clocks = lawful.formed.event_clocks;
    sends = All-push (λ x. x.send < length p.events) p.messages m lawful.formed.sends new.sends;
    receives = All-push (λ x. x.receive < length p.events) p.messages m lawful.formed.receives new.receives;
    two_ends = All-push (λ x. x.send ≢ x.receive) p.messages m lawful.formed.two_ends new.two_ends;
    messages_differ = all_pairs_push (λ a b. (a.send ≡ b.send) → (a.receive ≡ b.receive) → ⊥) p.messages m lawful.formed.messages_differ new.new;
  };
  fits = record {
    clocks_fit = lawful.fits.clocks_fit;
    clock_limit = lawful.fits.clock_limit;
    gaps_fit = lawful.fits.gaps_fit;
    events_fit = lawful.fits.events_fit;
    event_limit = lawful.fits.event_limit;
    messages_fit = All-push MessageFits p.messages m lawful.fits.messages_fit fits;
    message_limit = grind (arith, length-append, room);
  };
}

-- ---- with the look-ups
pub items_clock : (p : ProblemLists) (ns ns' es : List (List ℕ)) (ps : List (ℕ × ℕ)) (ls ls' : List Link) (cs : List Clock) (c : Clock) → AreProblemItems p ns es ps ls → ClockFits c → IsNewClock p c → HasRoomForClock p →
    cs ≡ p.clocks ++ c ∷ [] → ns' ≡ ns ++ c.name ∷ [] → ls' ≡ ls ++ lone (length p.clocks) ∷ [] → AreProblemItems (record p { clocks = cs }) ns' es ps ls'
items_clock p ns ns' es ps ls ls' cs c items fits new room grown names links =
    rw (grown, names, links) (record {
      lawful = more_clock p c items.lawful fits new room;
      clock_names_are = rw items.clock_names_are (sym (map-append (λ c. c.name) p.clocks (c ∷ [])));
      event_names_are = items.event_names_are;
      pairs_are = items.pairs_are;
      links_are = links_clock p c ls items.lawful.formed items.links_are;
    })

pub items_follow : (p : ProblemLists) (ns es : List (List ℕ)) (ps : List (ℕ × ℕ)) (ls ls' : List Link) (fs : List Follow) (f : Follow) → AreProblemItems p ns es ps ls → f.gap < 2 ^ 62 → IsNewFollow p f →
    fs ≡ p.follows ++ f ∷ [] → AreLinks (with_follow p f) ls' → AreProblemItems (record p { follows = fs }) ns es ps ls'
items_follow p ns es ps ls ls' fs f items fits new grown links =
    rw grown (record {
      lawful = more_follow p f items.lawful fits new;
      clock_names_are = items.clock_names_are;
      event_names_are = items.event_names_are;
      pairs_are = items.pairs_are;
      links_are = links;
    })

pub items_event : (p : ProblemLists) (ns es es' : List (List ℕ)) (ps : List (ℕ × ℕ)) (ls : List Link) (vs : List Event) (e : Event) → AreProblemItems p ns es ps ls → IsEventName e.name → EventFits e → IsNewEvent p e → HasRoomForEvent p →
    vs ≡ p.events ++ e ∷ [] → es' ≡ es ++ e.name ∷ [] → AreProblemItems (record p { events = vs }) ns es' ps ls
items_event p ns es es' ps ls vs e items named fits new room grown names =
    rw (grown, names) (record {
      lawful = more_event p e items.lawful named fits new room;
      clock_names_are = items.clock_names_are;
      event_names_are = rw items.event_names_are (sym (map-append (λ c. c.name) p.events (e ∷ [])));
      pairs_are = items.pairs_are;
      links_are = links_event p e ls items.links_are;
    })

pub items_message : (p : ProblemLists) (ns es : List (List ℕ)) (ps ps' : List (ℕ × ℕ)) (ls : List Link) (ms : List Message) (m : Message) → AreProblemItems p ns es ps ls → MessageFits m → IsMessageOfNewPair p m → HasRoomForMessage p →
    ms ≡ p.messages ++ m ∷ [] → ps' ≡ ps ++ (m.send, m.receive) ∷ [] → AreProblemItems (record p { messages = ms }) ns es ps' ls
items_message p ns es ps ps' ls ms m items fits new room grown pairs =
    rw (grown, pairs) (record {
      lawful = more_message p m items.lawful fits new room;
      clock_names_are = items.clock_names_are;
      event_names_are = items.event_names_are;
      pairs_are = rw items.pairs_are (sym (map-append {A = Message} {B = ℕ × ℕ} (λ m. (m.send, m.receive)) p.messages (m ∷ [])));
      links_are = links_message p m ls items.links_are;
    })

-- ---- the look-ups answer what may be added
module _ (p : ProblemLists) (ns es : List (List ℕ)) (ps : List (ℕ × ℕ)) (ls : List Link) where
  pub known_clock : (c : Clock) (k : ℕ) → AreProblemItems p ns es ps ls → slice_get ns k ≡ Some c.name → IsNewClock p c → ⊥
  known_clock c k items at new = at_none (λ x. x.name) p.clocks c.name new.new k (rw items.clock_names_are at at)

  pub unknown_clock : (c : Clock) → AreProblemItems p ns es ps ls → ((k : ℕ) → slice_get ns k ≡ Some c.name → ⊥) → IsClockName c.name → IsNewClock p c
  unknown_clock c items none named = record { named = named; new = absent (λ x. x.name) p.clocks c.name (rw items.clock_names_are at none) }

  pub still_new_clock : (c : Clock) → AreProblemItems p ns es ps ls → IsNewClock p c → (k : ℕ) → slice_get ns k ≡ Some c.name → ⊥
  still_new_clock c items new k at = known_clock c k items at new

  pub known_event : (e : Event) (k : ℕ) → AreProblemItems p ns es ps ls → slice_get es k ≡ Some e.name → IsNewEvent p e → ⊥
  known_event e k items at new = at_none (λ x. x.name) p.events e.name new.new k (rw items.event_names_are at at)

  pub unknown_event : (e : Event) → AreProblemItems p ns es ps ls → ((k : ℕ) → slice_get es k ≡ Some e.name → ⊥) → e.clock < length p.clocks → All (λ x. is_some x.bounds ≡ is_some e.bounds) p.events → IsNewEvent p e
  unknown_event e items none known alike = record { new = absent (λ x. x.name) p.events e.name (rw items.event_names_are at none); clock = known; alike = alike }

  pub still_new_event : (e : Event) → AreProblemItems p ns es ps ls → IsNewEvent p e → (k : ℕ) → slice_get es k ≡ Some e.name → ⊥
  still_new_event e items new k at = known_event e k items at new

  pub known_pair : (send receive : ℕ) (k : ℕ) → AreProblemItems p ns es ps ls → slice_get {X = ℕ × ℕ} ps k ≡ Some (send, receive) → IsNewPair p send receive → ⊥
  known_pair send receive k items at new = pair_at_none p.messages send receive new.new k (rw items.pairs_are at at)

  pub unknown_pair : (send receive : ℕ) → AreProblemItems p ns es ps ls → ((k : ℕ) → slice_get {X = ℕ × ℕ} ps k ≡ Some (send, receive) → ⊥) → (send < length p.events) × (receive < length p.events) × (send ≢ receive) → IsNewPair p send receive
  unknown_pair send receive items none ends = record { sends = ends.0; receives = ends.1; two_ends = ends.2; new = pair_absent p.messages send receive (rw items.pairs_are at none) }

  pub still_new_pair : (send receive : ℕ) → AreProblemItems p ns es ps ls → IsNewPair p send receive → (k : ℕ) → slice_get {X = ℕ × ℕ} ps k ≡ Some (send, receive) → ⊥
  still_new_pair send receive items new k at = known_pair send receive k items at new
