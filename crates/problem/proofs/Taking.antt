-- What taking a line makes of a problem, and why one is refused.
use Rattle.std.proofs.Common.{◌≡◌, ◌≢◌, ◌<◌, ◌+◌, All, Bool, true, false, is_some, None, ℕ, zero, suc, List, [], ◌∷◌, ◌++◌, length, map, slice_get, get_or, drop, Option, Some, Err, refl, sym, ◌∙◌, ap, subst, arith, append_assoc, length-append, inl, inr}
use Rattle.std.specs.List.{flat_map}
use Rattle.std.proofs.lemmas.Bool.{cases_lt}
use Rattle.std.proofs.lemmas.List.{append-nil}
use Rattle.std.proofs.lemmas.List.Elements.{All-push}
use Rattle.std.proofs.lemmas.List.Concat.{flat_map-append, flat_map-cons}
use Rattle.line_format.specs.Words.{words, line_of}
use Rattle.line_format.specs.Format.{Grows, Takes, TakesLine, FaultIn, Refuses}
use Rattle.line_format.specs.declared.fault.FaultKind.{FaultKind}
use Rattle.line_format.specs.declared.fault.FaultKind.TheVariants as kinds
use Rattle.line_format.specs.declared.fault.LineError.{LineError}
use Rattle.line_format.specs.declared.fault.LineError.TheVariants as errors
use Rattle.problem_model.specs.declared.items.Clock.{Clock}
use Rattle.problem_model.specs.declared.items.Follow.{Follow}
use Rattle.problem_model.specs.declared.items.Event.{Event}
use Rattle.problem_model.specs.declared.items.Message.{Message}
use Rattle.problem_model.specs.Problem.{ProblemLists, IsProblem}
use Rattle.problem_model.specs.ChainNumbers.{with_follow}
use Rattle.problem_model.specs.ProblemText.{clock_line, follow_line, event_line, message_line, clock_name, event_name}
use Rattle.problem.specs.declared.errors.PushError.{PushError}
use Rattle.problem.specs.declared.errors.PushError.TheVariants as pushes
use Rattle.problem.specs.declared.words.ClockWords.{ClockWords}
use Rattle.problem.specs.declared.version.Version.{Version}
use Rattle.problem.specs.declared.version.Version.TheVariants.{First, Second, Third}
use Rattle.problem.specs.declared.words.FollowWords.{FollowWords}
use Rattle.problem.specs.declared.words.EventWords.{EventWords}
use Rattle.problem.specs.declared.words.OwnWords.{OwnWords}
use Rattle.problem.specs.declared.ranges.OwnStamp.{OwnStamp}
use Rattle.problem.specs.declared.words.MessageWords.{MessageWords}
use Rattle.problem.specs.Growing.{IsNewFollow, IsNewEvent, IsNewPair, HasRoomForEvent, HasRoomForMessage, Allows, with_clock, with_event, with_message}
use Rattle.problem.specs.Line.{Line, line_words, IsSpelled, HasWhatItNeeds, MayStand, NamesFit, NumbersFit, MayFollow, AreBounded, are_own, IsInPlace, IsInOrder, HasClock, HasEvent, head_with, problem_format}
use Rattle.problem.specs.Line.Line.{ClockLine, FollowLine, EventLine, OwnLine, MessageLine, EndLine}
use Rattle.problem.specs.Written.{NanoIs, OwnIs, MostIs, clock_rest, event_rest, own_rest, message_rest, ClockSays, FollowSays, EventSays, OwnSays, MessageSays, clock_body, follow_body, event_body, message_body}
use Rattle.problem.specs.Faults.{line_error}

flat_map-one : {A : Type 0} (f : A → List ℕ) (a : A) → flat_map f (a ∷ []) ≡ f a
flat_map-one f a = flat_map-cons f a [] ∙ append-nil (f a)

-- the lines of a list with one item more
lines_more : {A : Type 0} (f : A → List ℕ) (xs : List A) (a : A) → flat_map f (xs ++ a ∷ []) ≡ flat_map f xs ++ f a
lines_more f xs a = flat_map-append f xs (a ∷ []) ∙ ap (λ ys. flat_map f xs ++ ys) (flat_map-one f a)

-- ---- a name has one place
pub clock_at : (cs : List Clock) (j : ℕ) (name : List ℕ) (d : Clock) → slice_get (map (λ c. c.name) cs) j ≡ Some name → (j < length cs) × ((get_or cs j d).name ≡ name)
clock_at [] j name d at = absurd cc
clock_at (c ∷ cs) zero name d at = (omega arith, cc)
clock_at (c ∷ cs) (suc j) name d at = let r = clock_at cs j name d at in (omega (arith, r.0), r.1)

pub one_clock : (p : ProblemLists) (j k : ℕ) (name : List ℕ) → IsProblem p → HasClock p j name → HasClock p k name → j ≡ k
one_clock p j k name sound at at' =
    let d : Clock = record { name = []; rate = record { short = 0; long = 0 }; early = 0; late = 0 } in
    let a = clock_at p.clocks j name d at in
    let b = clock_at p.clocks k name d at' in
    elim (cases_lt j k) [
      | inl below ↦ absurd (sound.formed.clocks_differ j k d below b.0 (a.1 ∙ sym b.1))
      | inr le ↦ elim (cases_lt k j) [
        | inl below ↦ absurd (sound.formed.clocks_differ k j d below a.0 (b.1 ∙ sym a.1))
        | inr le' ↦ omega (arith, le, le')
      ]
    ]

pub named_at : (es : List Event) (j : ℕ) (name : List ℕ) (d : Event) → slice_get (map (λ e. e.name) es) j ≡ Some name → (j < length es) × ((get_or es j d).name ≡ name)
named_at [] j name d at = absurd cc
named_at (e ∷ es) zero name d at = (omega arith, cc)
named_at (e ∷ es) (suc j) name d at = let r = named_at es j name d at in (omega (arith, r.0), r.1)

pub one_place : (p : ProblemLists) (j k : ℕ) (name : List ℕ) → IsProblem p → HasEvent p j name → HasEvent p k name → j ≡ k
one_place p j k name sound at at' =
    let d : Event = record { name = []; clock = 0; stamp = 0; bounds = None } in
    let a = named_at p.events j name d at in
    let b = named_at p.events k name d at' in
    elim (cases_lt j k) [
      | inl below ↦ absurd (sound.formed.events_differ j k d below b.0 (a.1 ∙ sym b.1))
      | inr le ↦ elim (cases_lt k j) [
        | inl below ↦ absurd (sound.formed.events_differ k j d below a.0 (b.1 ∙ sym a.1))
        | inr le' ↦ omega (arith, le, le')
      ]
    ]

clock_name_at : (cs : List Clock) (k : ℕ) (name : List ℕ) → slice_get (map (λ c. c.name) cs) k ≡ Some name → clock_name cs k ≡ name
clock_name_at [] k name at = absurd cc
clock_name_at (c ∷ cs) zero name at = cc
clock_name_at (c ∷ cs) (suc k) name at = clock_name_at cs k name at

event_name_at : (es : List Event) (k : ℕ) (name : List ℕ) → slice_get (map (λ e. e.name) es) k ≡ Some name → event_name es k ≡ name
event_name_at [] k name at = absurd cc
event_name_at (e ∷ es) zero name at = cc
event_name_at (e ∷ es) (suc k) name at = event_name_at es k name at

-- ---- the text grows by a line
sides : (h a l b : List ℕ) → b ≡ a ++ l → h ++ b ++ ([] ++ []) ++ [] ≡ (h ++ a ++ ([] ++ []) ++ []) ++ l
sides h a l b is = rw is (simp (append-nil, append_assoc))

pub clock_grows : (version : Version) (p : ProblemLists) (c : Clock) → p.follows ≡ [] → p.events ≡ [] → p.messages ≡ [] → Grows (problem_format version) p (with_clock p c) (clock_line c)
clock_grows version p c no_follows no_events no_messages = record {
  text = rw (no_follows, no_events, no_messages) (sides (line_of (head_with version)) (flat_map clock_line p.clocks) (clock_line c) (flat_map clock_line (p.clocks ++ c ∷ [])) (lines_more clock_line p.clocks c));
  lines = rw length-append (omega arith);
}

follow_sides : (h a f l f' : List ℕ) → f' ≡ f ++ l → h ++ a ++ (f' ++ []) ++ [] ≡ (h ++ a ++ (f ++ []) ++ []) ++ l
follow_sides h a f l f' is = rw is (simp (append-nil, append_assoc))

pub follow_grows : (version : Version) (p : ProblemLists) (f : Follow) → p.events ≡ [] → p.messages ≡ [] → Grows (problem_format version) p (with_follow p f) (follow_line p.clocks f)
follow_grows version p f no_events no_messages = record {
  text = rw (no_events, no_messages) (follow_sides (line_of (head_with version)) (flat_map clock_line p.clocks) (flat_map (follow_line p.clocks) p.follows) (follow_line p.clocks f) (flat_map (follow_line p.clocks) (p.follows ++ f ∷ [])) (lines_more (follow_line p.clocks) p.follows f));
  lines = rw length-append (omega arith);
}

pub follow_taken : (version : Version) (p : ProblemLists) (earlier later : List ℕ) (c d gap g : ℕ) → p.events ≡ [] → p.messages ≡ [] → HasClock p c earlier → HasClock p d later → NanoIs (Some gap) g →
    Grows (problem_format version) p (with_follow p (record { earlier = c; later = d; gap = gap })) (line_of (line_words (FollowLine earlier later g)))
follow_taken version p earlier later c d gap g no_events no_messages at at' is =
    rw (← is.1) (rw (clock_name_at p.clocks c earlier at, clock_name_at p.clocks d later at') at (follow_grows version p (record { earlier = c; later = d; gap = gap }) no_events no_messages))

event_sides : (h a f b l b' : List ℕ) → b' ≡ b ++ l → h ++ a ++ (f ++ b') ++ [] ≡ (h ++ a ++ (f ++ b) ++ []) ++ l
event_sides h a f b l b' is = rw is (simp (append-nil, append_assoc))

pub event_grows : (version : Version) (p : ProblemLists) (e : Event) → p.messages ≡ [] → Grows (problem_format version) p (with_event p e) (event_line p.clocks e)
event_grows version p e no_messages = record {
  text = rw no_messages (event_sides (line_of (head_with version)) (flat_map clock_line p.clocks) (flat_map (follow_line p.clocks) p.follows) (flat_map (event_line p.clocks) p.events) (event_line p.clocks e) (flat_map (event_line p.clocks) (p.events ++ e ∷ [])) (lines_more (event_line p.clocks) p.events e));
  lines = rw length-append (omega arith);
}

pub event_taken : (version : Version) (p : ProblemLists) (name clock : List ℕ) (k t : ℕ) → p.messages ≡ [] → HasClock p k clock →
    Grows (problem_format version) p (with_event p (record { name = name; clock = k; stamp = t; bounds = None })) (line_of (line_words (EventLine name clock t)))
event_taken version p name clock k t no_messages at = rw (clock_name_at p.clocks k clock at) at (event_grows version p (record { name = name; clock = k; stamp = t; bounds = None }) no_messages)

pub own_taken : (version : Version) (p : ProblemLists) (name clock : List ℕ) (k : ℕ) (own : OwnStamp) (t e l : ℕ) → p.messages ≡ [] → HasClock p k clock → OwnIs (Some own) t e l →
    Grows (problem_format version) p (with_event p (record { name = name; clock = k; stamp = own.stamp; bounds = Some own.bounds })) (line_of (line_words (OwnLine name clock t e l)))
own_taken version p name clock k own t e l no_messages at is =
    rw is.1 (rw (clock_name_at p.clocks k clock at) at (event_grows version p (record { name = name; clock = k; stamp = t; bounds = Some (record { early = e; late = l }) }) no_messages))

message_sides : (h a b c l c' : List ℕ) → c' ≡ c ++ l → h ++ a ++ b ++ c' ≡ (h ++ a ++ b ++ c) ++ l
message_sides h a b c l c' is = rw is (simp append_assoc)

pub message_grows : (version : Version) (p : ProblemLists) (m : Message) → Grows (problem_format version) p (with_message p m) (message_line p.events m)
message_grows version p m = record {
  text = message_sides (line_of (head_with version)) (flat_map clock_line p.clocks) (flat_map (follow_line p.clocks) p.follows ++ flat_map (event_line p.clocks) p.events) (flat_map (message_line p.events) p.messages) (message_line p.events m) (flat_map (message_line p.events) (p.messages ++ m ∷ [])) (lines_more (message_line p.events) p.messages m);
  lines = rw length-append (omega arith);
}

pub message_taken : (version : Version) (p : ProblemLists) (ms : List Message) (send receive : List ℕ) (s r least l : ℕ) (most m : Option ℕ) → HasEvent p s send → HasEvent p r receive → NanoIs (Some least) l → MostIs (Some most) m →
    ms ≡ p.messages ++ record { send = s; receive = r; least = least; most = most } ∷ [] → Grows (problem_format version) p (record p { messages = ms }) (line_of (line_words (MessageLine send receive l m)))
message_taken version p ms send receive s r least l most m at at' least_is most_is grown =
    rw (grown, least_is.1, most_is.1) (rw (event_name_at p.events s send at, event_name_at p.events r receive at') at (message_grows version p (record { send = s; receive = r; least = l; most = m })))

-- ---- the order of the lines
-- events have bounds of their own in the third version alone
pub only_third : (version : Version) → are_own version ≡ true → version ≡ Third
only_third First own = absurd cc
only_third Second own = absurd cc
only_third Third own = refl

no_events_bounded : (own : Bool) (events : List Event) → events ≡ [] → AreBounded own events
no_events_bounded own events none = rw none (λ k d inside. absurd (omega (arith, inside)))

pub clocks_in_order : (version : Version) (p : ProblemLists) → p.follows ≡ [] → p.events ≡ [] → p.messages ≡ [] → IsInOrder version p
clocks_in_order version p no_follows no_events no_messages = (in_place version, no_events_bounded (are_own version) p.events no_events)
  where
    in_place : (version : Version) → IsInPlace version p
    in_place First = no_follows
    in_place Second = λ none. (no_events, no_messages)
    in_place Third = λ none. no_messages

pub follow_in_order : (version : Version) (p q : ProblemLists) → MayFollow version p → q.follows ≢ [] → q.events ≡ [] → q.messages ≡ [] → IsInOrder version q
follow_in_order version p q may some no_events no_messages = (in_place version may, no_events_bounded (are_own version) q.events no_events)
  where
    in_place : (version : Version) → MayFollow version p → IsInPlace version q
    in_place First may = absurd may
    in_place Second may = λ none. (no_events, no_messages)
    in_place Third may = λ none. no_messages

pub event_in_order : (version : Version) (p q : ProblemLists) → are_own version ≡ false → HasWhatItNeeds version p → q.follows ≡ p.follows → AreBounded false q.events → IsInOrder version p → IsInOrder version q
event_in_order First p q plain has same bounded ordered = (same ∙ ordered.0, bounded)
event_in_order Second p q plain has same bounded ordered = ((λ none. absurd (has (sym same ∙ none))), bounded)
event_in_order Third p q plain has same bounded ordered = absurd cc

pub more_in_order : (version : Version) (p q : ProblemLists) → HasWhatItNeeds version p → q.follows ≡ p.follows → q.events ≡ p.events → IsInOrder version p → IsInOrder version q
more_in_order version p q has same same' ordered = (in_place version has ordered.0, rw same' ordered.1)
  where
    in_place : (version : Version) → HasWhatItNeeds version p → IsInPlace version p → IsInPlace version q
    in_place First has placed = same ∙ placed
    in_place Second has placed = λ none. absurd (has (sym same ∙ none))
    in_place Third has placed = λ none. absurd (has (sym same' ∙ none))

-- ---- why an event is refused
-- names that fit make it new where the events there have bounds as it has
fits_new_event : (p : ProblemLists) (e : Event) → AreBounded (is_some e.bounds) p.events → e.clock < length p.clocks → All (λ x. x.name ≢ e.name) p.events → IsNewEvent p e
fits_new_event p e bounded known new = record { new = new; clock = known; alike = bounded }

pub event_refused : (version : Version) (p q : ProblemLists) (name clock : List ℕ) (k stamp t : ℕ) (e : PushError) → AreBounded false p.events → HasClock p k clock → k < length p.clocks → NanoIs (Some stamp) t →
    Allows (IsNewEvent p (record { name = name; clock = k; stamp = stamp; bounds = None })) (HasRoomForEvent p) (Err e) → TakesLine (problem_format version) p (EventLine name clock t) (Err (line_error e)) q
event_refused version p q name clock k stamp t pushes.Name bounded at known is none = λ fits. none (fits_new_event p (record { name = name; clock = k; stamp = stamp; bounds = None }) bounded known fits.0)
event_refused version p q name clock k stamp t pushes.Limit bounded at known is full = ((full.0.new, (k, at)), is.0, full.1)
event_refused version p q name clock k stamp t pushes.Memory bounded at known is out = tt

pub own_refused : (version : Version) (p q : ProblemLists) (name clock : List ℕ) (k : ℕ) (own : OwnStamp) (t y l : ℕ) (e : PushError) → AreBounded true p.events → HasClock p k clock → k < length p.clocks → OwnIs (Some own) t y l →
    Allows (IsNewEvent p (record { name = name; clock = k; stamp = own.stamp; bounds = Some own.bounds })) (HasRoomForEvent p) (Err e) → TakesLine (problem_format version) p (OwnLine name clock t y l) (Err (line_error e)) q
own_refused version p q name clock k own t y l pushes.Name bounded at known is none = λ fits. none (fits_new_event p (record { name = name; clock = k; stamp = own.stamp; bounds = Some own.bounds }) bounded known fits.0)
own_refused version p q name clock k own t y l pushes.Limit bounded at known is full = ((full.0.new, (k, at)), is.0, full.1)
own_refused version p q name clock k own t y l pushes.Memory bounded at known is out = tt

-- one event more with bounds as the others have them
pub more_bounded : (own : Bool) (es new : List Event) (e : Event) → new ≡ es ++ e ∷ [] → is_some e.bounds ≡ own → AreBounded own es → AreBounded own new
more_bounded own es new e is same bounded = rw is (All-push (λ x. is_some x.bounds ≡ own) es e bounded same)

-- a list with an item more is not empty
pub some_more : (es new : List Event) (e : Event) → new ≡ es ++ e ∷ [] → new ≢ []
some_more es new e is none = let count : length new ≡ length es + 1 = ap length is ∙ length-append es (e ∷ []) in let no : length new ≡ 0 = ap length none in omega (arith, count, no)

-- ---- why a follow is refused
module _ (version : Version) (p : ProblemLists) (lawful : IsProblem p) (x y : List ℕ) (c d gap : ℕ) (at : HasClock p c x) (at' : HasClock p d y) where
  fits_new_follow : (g : ℕ) → NamesFit p (FollowLine x y g) → IsNewFollow p (record { earlier = c; later = d; gap = gap })
  fits_new_follow g fits =
      let same = one_clock p fits.0 c x lawful fits.2 at in
      let same' = one_clock p fits.1 d y lawful fits.3 at' in
      record {
        leads = (
          rw (← same, ← same') fits.4,
          let e : Clock = record { name = []; rate = record { short = 0; long = 0 }; early = 0; late = 0 } in (clock_at p.clocks d y e at').0,
        );
        earlier_new = rw (← same) fits.5;
        later_new = rw (← same') fits.6;
      }

  new_follow_fits : (g : ℕ) → IsNewFollow p (record { earlier = c; later = d; gap = gap }) → NamesFit p (FollowLine x y g)
  new_follow_fits g new = (c, d, at, at', new.leads.0, new.earlier_new, new.later_new)

  -- a gap that is out of its range
  pub gap_refused : (g : ℕ) → IsNewFollow p (record { earlier = c; later = d; gap = gap }) → (NumbersFit (FollowLine x y g) → ⊥) → Refuses (problem_format version) p (FollowLine x y g) kinds.Range
  gap_refused g new out = (new_follow_fits g new, out)

  -- two clocks that may not follow each other
  pub no_new_follow : (g : ℕ) → (IsNewFollow p (record { earlier = c; later = d; gap = gap }) → ⊥) → NamesFit p (FollowLine x y g) → ⊥
  no_new_follow g none fits = none (fits_new_follow g fits)

  -- a follow that may not be added
  pub follow_refused : (q : ProblemLists) (e : PushError) (g : ℕ) → Allows (IsNewFollow p (record { earlier = c; later = d; gap = gap })) (Unit {0}) (Err e) → TakesLine (problem_format version) p (FollowLine x y g) (Err (line_error e)) q
  follow_refused q pushes.Name g refused = no_new_follow g refused
  follow_refused q pushes.Limit g refused = absurd (refused.1 tt)
  follow_refused q pushes.Memory g refused = tt

-- ---- a clock of a follow that is unknown
pub no_earlier : (p : ProblemLists) (x y : List ℕ) (g : ℕ) → ((k : ℕ) → HasClock p k x → ⊥) → NamesFit p (FollowLine x y g) → ⊥
no_earlier p x y g none fits = none fits.0 fits.2

pub no_later : (p : ProblemLists) (x y : List ℕ) (g : ℕ) → ((k : ℕ) → HasClock p k y → ⊥) → NamesFit p (FollowLine x y g) → ⊥
no_later p x y g none fits = none fits.1 fits.3

-- ---- why a message is refused
module _ (version : Version) (p : ProblemLists) (lawful : IsProblem p) (x y : List ℕ) (s r l : ℕ) (m : Option ℕ) (at : HasEvent p s x) (at' : HasEvent p r y) where
  fits_new : NamesFit p (MessageLine x y l m) → IsNewPair p s r
  fits_new fits =
      let same = one_place p fits.0 s x lawful fits.2 at in
      let same' = one_place p fits.1 r y lawful fits.3 at' in
      record {
        sends = let d : Event = record { name = []; clock = 0; stamp = 0; bounds = None } in (named_at p.events s x d at).0;
        receives = let d : Event = record { name = []; clock = 0; stamp = 0; bounds = None } in (named_at p.events r y d at').0;
        two_ends = rw (← same, ← same') fits.4;
        new = rw (← same, ← same') fits.5;
      }

  new_fits : IsNewPair p s r → NamesFit p (MessageLine x y l m)
  new_fits new = (s, r, at, at', new.two_ends, new.new)

  -- a pair that may not be joined
  pub not_new : (IsNewPair p s r → ⊥) → NamesFit p (MessageLine x y l m) → ⊥
  not_new none fits = none (fits_new fits)

  -- a message that may not be added
  pub message_refused : (q : ProblemLists) (e : PushError) → NumbersFit (MessageLine x y l m) → Allows (IsNewPair p s r) (HasRoomForMessage p) (Err e) → TakesLine (problem_format version) p (MessageLine x y l m) (Err (line_error e)) q
  message_refused q pushes.Name numbers refused = not_new refused
  message_refused q pushes.Limit numbers refused = (new_fits refused.0, numbers, refused.1)
  message_refused q pushes.Memory numbers refused = tt

-- ---- a line that was taken or refused by its form
refused : (version : Version) (p : ProblemLists) (body : List ℕ) (line : Line) (kind : FaultKind) → MayStand version p line → IsSpelled line → body ≡ words (line_words line) → Refuses (problem_format version) p line kind → FaultIn (problem_format version) p body kind
refused version p body line kinds.Syntax may spelled is r = absurd r
refused version p body line kinds.Name may spelled is r = (line, may, spelled, is, r)
refused version p body line kinds.Range may spelled is r = (line, may, spelled, is, r)
refused version p body line kinds.Limit may spelled is r = (line, may, spelled, is, r)

pub fault_of_line : (version : Version) (p q : ProblemLists) (body : List ℕ) (line : Line) (e : LineError) → MayStand version p line → IsSpelled line → body ≡ words (line_words line) → TakesLine (problem_format version) p line (Err e) q → Takes (problem_format version) p body (Err e) q
fault_of_line version p q body line errors.Memory may spelled is r = tt
fault_of_line version p q body line (errors.Fault kind) may spelled is r = refused version p body line kind may spelled is r

-- ---- clocks
pub no_clock : (version : Version) (p : ProblemLists) (rest : List ℕ) → ((name : List ℕ) (s l e t : ℕ) → MayStand version p (ClockLine name s l e t) → IsSpelled (ClockLine name s l e t) → rest ≡ clock_rest name s l e t → ⊥) →
    FaultIn (problem_format version) p (clock_body rest) kinds.Syntax
no_clock version p rest none (ClockLine name s l e t) may spelled is = none name s l e t may spelled (ap (drop 6) is)
no_clock version p rest none (FollowLine earlier later gap) may spelled is = absurd (let h = ap (λ xs. get_or xs 0 0) is in omega (arith, h))
no_clock version p rest none (EventLine name clock stamp) may spelled is = absurd (let h = ap (λ xs. get_or xs 0 0) is in omega (arith, h))
no_clock version p rest none (OwnLine name clock stamp early late) may spelled is = absurd (let h = ap (λ xs. get_or xs 0 0) is in omega (arith, h))
no_clock version p rest none (MessageLine send receive least most) may spelled is = absurd (let h = ap (λ xs. get_or xs 0 0) is in omega (arith, h))
no_clock version p rest none EndLine may spelled is = absurd (let h = ap (λ xs. get_or xs 0 0) is in omega (arith, h))

pub clock_line_ok : (version : Version) (p q : ProblemLists) (rest : List ℕ) (w : ClockWords) (says : ClockSays rest w) → Grows (problem_format version) p q (line_of (line_words (ClockLine w.name says.short says.long says.early says.late))) → Grows (problem_format version) p q (clock_body rest ++ 10 ∷ [])
clock_line_ok version p q rest w says grows = subst (λ (b : List ℕ). Grows (problem_format version) p q (b ++ 10 ∷ [])) (sym (ap clock_body says.is)) grows

pub clock_line_err : (version : Version) (p q : ProblemLists) (rest : List ℕ) (w : ClockWords) (says : ClockSays rest w) (e : LineError) → MayStand version p (ClockLine w.name says.short says.long says.early says.late) → TakesLine (problem_format version) p (ClockLine w.name says.short says.long says.early says.late) (Err e) q → Takes (problem_format version) p (clock_body rest) (Err e) q
clock_line_err version p q rest w says e may r =
    fault_of_line version p q (clock_body rest) (ClockLine w.name says.short says.long says.early says.late) e may says.named (ap clock_body says.is) r

-- ---- follows
pub follow_line_ok : (version : Version) (p q : ProblemLists) (rest : List ℕ) (w : FollowWords) (says : FollowSays rest w) → Grows (problem_format version) p q (line_of (line_words (FollowLine w.earlier w.later says.gap))) → Grows (problem_format version) p q (follow_body rest ++ 10 ∷ [])
follow_line_ok version p q rest w says grows = subst (λ (b : List ℕ). Grows (problem_format version) p q (b ++ 10 ∷ [])) (sym (ap follow_body says.is)) grows

pub follow_line_err : (version : Version) (p q : ProblemLists) (rest : List ℕ) (w : FollowWords) (says : FollowSays rest w) (e : LineError) → MayStand version p (FollowLine w.earlier w.later says.gap) → TakesLine (problem_format version) p (FollowLine w.earlier w.later says.gap) (Err e) q → Takes (problem_format version) p (follow_body rest) (Err e) q
follow_line_err version p q rest w says e may r =
    fault_of_line version p q (follow_body rest) (FollowLine w.earlier w.later says.gap) e may (says.earlier_named, says.later_named) (ap follow_body says.is) r

-- ---- events
pub no_event : (version : Version) (p : ProblemLists) (rest : List ℕ) → ((name clock : List ℕ) (stamp : ℕ) → MayStand version p (EventLine name clock stamp) → IsSpelled (EventLine name clock stamp) → rest ≡ event_rest name clock stamp → ⊥) →
    ((name clock : List ℕ) (s e t : ℕ) → MayStand version p (OwnLine name clock s e t) → IsSpelled (OwnLine name clock s e t) → rest ≡ own_rest name clock s e t → ⊥) → FaultIn (problem_format version) p (event_body rest) kinds.Syntax
no_event version p rest none none' (ClockLine name s l e t) may spelled is = absurd (let h = ap (λ xs. get_or xs 0 0) is in omega (arith, h))
no_event version p rest none none' (FollowLine earlier later gap) may spelled is = absurd (let h = ap (λ xs. get_or xs 0 0) is in omega (arith, h))
no_event version p rest none none' (EventLine name clock stamp) may spelled is = none name clock stamp may spelled (ap (drop 6) is)
no_event version p rest none none' (OwnLine name clock s e t) may spelled is = none' name clock s e t may spelled (ap (drop 6) is)
no_event version p rest none none' (MessageLine send receive least most) may spelled is = absurd (let h = ap (λ xs. get_or xs 0 0) is in omega (arith, h))
no_event version p rest none none' EndLine may spelled is = absurd (let h = ap (λ xs. get_or xs 1 0) is in omega (arith, h))

pub event_line_ok : (version : Version) (p q : ProblemLists) (rest : List ℕ) (w : EventWords) (says : EventSays rest w) → Grows (problem_format version) p q (line_of (line_words (EventLine w.name w.clock says.stamp))) → Grows (problem_format version) p q (event_body rest ++ 10 ∷ [])
event_line_ok version p q rest w says grows = subst (λ (b : List ℕ). Grows (problem_format version) p q (b ++ 10 ∷ [])) (sym (ap event_body says.is)) grows

pub event_line_err : (version : Version) (p q : ProblemLists) (rest : List ℕ) (w : EventWords) (says : EventSays rest w) (e : LineError) → MayStand version p (EventLine w.name w.clock says.stamp) → TakesLine (problem_format version) p (EventLine w.name w.clock says.stamp) (Err e) q → Takes (problem_format version) p (event_body rest) (Err e) q
event_line_err version p q rest w says e may r =
    fault_of_line version p q (event_body rest) (EventLine w.name w.clock says.stamp) e may (says.named, says.clock_named) (ap event_body says.is) r

pub own_line_ok : (version : Version) (p q : ProblemLists) (rest : List ℕ) (w : OwnWords) (says : OwnSays rest w) → Grows (problem_format version) p q (line_of (line_words (OwnLine w.name w.clock says.stamp says.early says.late))) → Grows (problem_format version) p q (event_body rest ++ 10 ∷ [])
own_line_ok version p q rest w says grows = subst (λ (b : List ℕ). Grows (problem_format version) p q (b ++ 10 ∷ [])) (sym (ap event_body says.is)) grows

pub own_line_err : (version : Version) (p q : ProblemLists) (rest : List ℕ) (w : OwnWords) (says : OwnSays rest w) (e : LineError) → MayStand version p (OwnLine w.name w.clock says.stamp says.early says.late) → TakesLine (problem_format version) p (OwnLine w.name w.clock says.stamp says.early says.late) (Err e) q → Takes (problem_format version) p (event_body rest) (Err e) q
own_line_err version p q rest w says e may r =
    fault_of_line version p q (event_body rest) (OwnLine w.name w.clock says.stamp says.early says.late) e may (says.named, says.clock_named) (ap event_body says.is) r

-- ---- messages
pub no_message : (version : Version) (p : ProblemLists) (rest : List ℕ) → ((send receive : List ℕ) (least : ℕ) (most : Option ℕ) → MayStand version p (MessageLine send receive least most) → IsSpelled (MessageLine send receive least most) → rest ≡ message_rest send receive least most → ⊥) →
    FaultIn (problem_format version) p (message_body rest) kinds.Syntax
no_message version p rest none (ClockLine name s l e t) may spelled is = absurd (let h = ap (λ xs. get_or xs 0 0) is in omega (arith, h))
no_message version p rest none (FollowLine earlier later gap) may spelled is = absurd (let h = ap (λ xs. get_or xs 0 0) is in omega (arith, h))
no_message version p rest none (EventLine name clock stamp) may spelled is = absurd (let h = ap (λ xs. get_or xs 0 0) is in omega (arith, h))
no_message version p rest none (OwnLine name clock stamp early late) may spelled is = absurd (let h = ap (λ xs. get_or xs 0 0) is in omega (arith, h))
no_message version p rest none (MessageLine send receive least most) may spelled is = none send receive least most may spelled (ap (drop 8) is)
no_message version p rest none EndLine may spelled is = absurd (let h = ap (λ xs. get_or xs 0 0) is in omega (arith, h))

pub message_line_ok : (version : Version) (p q : ProblemLists) (rest : List ℕ) (w : MessageWords) (says : MessageSays rest w) → Grows (problem_format version) p q (line_of (line_words (MessageLine w.send w.receive says.least says.most))) → Grows (problem_format version) p q (message_body rest ++ 10 ∷ [])
message_line_ok version p q rest w says grows = subst (λ (b : List ℕ). Grows (problem_format version) p q (b ++ 10 ∷ [])) (sym (ap message_body says.is)) grows

pub message_line_err : (version : Version) (p q : ProblemLists) (rest : List ℕ) (w : MessageWords) (says : MessageSays rest w) (e : LineError) → MayStand version p (MessageLine w.send w.receive says.least says.most) → TakesLine (problem_format version) p (MessageLine w.send w.receive says.least says.most) (Err e) q → Takes (problem_format version) p (message_body rest) (Err e) q
message_line_err version p q rest w says e may r =
    fault_of_line version p q (message_body rest) (MessageLine w.send w.receive says.least says.most) e may (says.send_named, says.receive_named) (ap message_body says.is) r
