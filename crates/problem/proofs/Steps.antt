-- Each problem is the empty one, or one smaller with one line more.
use Rattle.std.proofs.Common.{◌≡◌, ◌≢◌, ◌<◌, ◌+◌, ◌^◌, ◌⊎◌, ℕ, zero, suc, List, [], ◌∷◌, ◌++◌, length, map, slice_get, get_or, All, AllPairs, Option, Some, None, is_some, false, inl, inr, refl, sym, ◌∙◌, ap, subst, arith, length-append}
use Rattle.std.proofs.Math.ListN.{get_or-append}
use Rattle.line_format.specs.Words.{line_of}
use Rattle.line_format.specs.Format.{Answer, Grows}
use Rattle.line_format.proofs.OneAnswer.{answers_one}
use Rattle.line_format.proofs.Readable.{IsReadable, IsStep}
use Rattle.problem_model.specs.declared.items.Clock.{Clock}
use Rattle.problem_model.specs.declared.items.Follow.{Follow}
use Rattle.problem_model.specs.declared.items.Event.{Event}
use Rattle.problem_model.specs.declared.items.StampBounds.{StampBounds}
use Rattle.problem_model.specs.declared.items.Message.{Message}
use Rattle.problem_model.specs.Name.{IsClockName, IsEventName}
use Rattle.problem_model.specs.ChainNumbers.{with_follow}
use Rattle.problem_model.specs.Problem.{ProblemLists, IsProblem, LeadsOn, ClockFits, EventFits, MessageFits, empty_problem}
use Rattle.problem_model.specs.ProblemText.{clock_line, follow_line, event_line, message_line, event_name, clock_name}
use Rattle.problem.specs.Growing.{HasRoomForEvent, with_clock, with_event, with_message}
use Rattle.problem.specs.Line.{Line, HasClock, HasEvent, HasWhatItNeeds, MayFollow, MayStand, IsSpelled, NamesFit, NumbersFit, HasRoomForLine, AreBounded, are_own, IsInPlace, IsSaid, line_words, problem_format}
use Rattle.problem.specs.Line.Line.{ClockLine, FollowLine, EventLine, OwnLine, MessageLine, EndLine}
use Rattle.problem.specs.Reading.{AnswersProblem}
use Rattle.problem.specs.declared.version.Version.{Version}
use Rattle.problem.specs.declared.version.Version.TheVariants.{First, Second, Third}
use Rattle.problem.proofs.OneLine.{line_lacks, words_one}
use Rattle.problem.proofs.Taking.{one_place, one_clock, clock_grows, follow_grows, event_grows, message_grows, clocks_in_order, more_in_order}
use Rattle.problem.proofs.Answering.{second_or_not, third_or_not, start_is}

-- an event with bounds of its own
abbrev own_event : List ℕ → ℕ → ℕ → ℕ → ℕ → Event
own_event name k t e l = record { name = name; clock = k; stamp = t; bounds = Some (record { early = e; late = l }) }

-- q is p with the line
abbrev pub With : ProblemLists → Line → ProblemLists → Type 0
With p (ClockLine name s l e t) q = q ≡ with_clock p (record { name = name; rate = record { short = s; long = l }; early = e; late = t })
With p (FollowLine x y g) q = (c : ℕ) × (d : ℕ) × HasClock p c x × HasClock p d y × (q ≡ with_follow p (record { earlier = c; later = d; gap = g }))
With p (EventLine name clock t) q = (k : ℕ) × HasClock p k clock × (q ≡ with_event p (record { name = name; clock = k; stamp = t; bounds = None }))
With p (OwnLine name clock t e l) q = (k : ℕ) × HasClock p k clock × (q ≡ with_event p (own_event name k t e l))
With p (MessageLine x y l m) q = (j : ℕ) × (k : ℕ) × HasEvent p j x × HasEvent p k y × (q ≡ with_message p (record { send = j; receive = k; least = l; most = m }))
With p EndLine q = ⊥

abbrev pub size : ProblemLists → ℕ
size p = length p.messages + length p.events + length p.follows + length p.clocks

-- ---- the line tells the next problem
pub with_one : (p : ProblemLists) (line : Line) (q q' : ProblemLists) → IsProblem p → With p line q → With p line q' → q ≡ q'
with_one p (ClockLine name s l e t) q q' sound a b = a ∙ sym b
with_one p (FollowLine x y g) q q' sound a b =
    let c = one_clock p a.0 b.0 x sound a.2 b.2 in
    let d = one_clock p a.1 b.1 y sound a.3 b.3 in
    a.4 ∙ ap (λ (j : ℕ). with_follow p (record { earlier = j; later = a.1; gap = g })) c ∙ ap (λ (k : ℕ). with_follow p (record { earlier = b.0; later = k; gap = g })) d ∙ sym b.4
with_one p (EventLine name clock t) q q' sound a b =
    let same = one_clock p a.0 b.0 clock sound a.1 b.1 in
    a.2 ∙ ap (λ (k : ℕ). with_event p (record { name = name; clock = k; stamp = t; bounds = None })) same ∙ sym b.2
with_one p (OwnLine name clock t e l) q q' sound a b =
    let same = one_clock p a.0 b.0 clock sound a.1 b.1 in
    a.2 ∙ ap (λ (k : ℕ). with_event p (own_event name k t e l)) same ∙ sym b.2
with_one p (MessageLine x y l m) q q' sound a b =
    let s = one_place p a.0 b.0 x sound a.2 b.2 in
    let r = one_place p a.1 b.1 y sound a.3 b.3 in
    a.4 ∙ ap (λ (j : ℕ). with_message p (record { send = j; receive = a.1; least = l; most = m })) s ∙ ap (λ (k : ℕ). with_message p (record { send = b.0; receive = k; least = l; most = m })) r ∙ sym b.4
with_one p EndLine q q' sound a b = absurd a

-- ---- lists without their last item
last_at : {A : Type 0} (xs : List A) (y d : A) → get_or (xs ++ y ∷ []) (length xs) d ≡ y
last_at [] y d = refl
last_at (x ∷ xs) y d = last_at xs y d

all_init : {A : Type 0} (P : A → Type 0) (xs : List A) (y : A) → All P (xs ++ y ∷ []) → All P xs
all_init P xs y all = λ k d inside. subst P (get_or-append xs (y ∷ []) d k inside) (all k d (omega (arith, inside, length-append xs (y ∷ []))))

all_last : {A : Type 0} (P : A → Type 0) (xs : List A) (y : A) → All P (xs ++ y ∷ []) → P y
all_last P xs y all = subst P (last_at xs y y) (all (length xs) y (omega (arith, length-append xs (y ∷ []))))

pairs_init : {A : Type 0} (R : A → A → Type 0) (xs : List A) (y : A) → AllPairs R (xs ++ y ∷ []) → AllPairs R xs
pairs_init {A = A} R xs y all = λ i j d below inside.
    subst (λ (b : A). R (get_or xs i d) b) (get_or-append xs (y ∷ []) d j inside) (subst (λ (a : A). R a (get_or (xs ++ y ∷ []) j d)) (get_or-append xs (y ∷ []) d i (omega (arith, below, inside))) (all i j d below (omega (arith, inside, length-append xs (y ∷ [])))))

pairs_last : {A : Type 0} (R : A → A → Type 0) (xs : List A) (y : A) → AllPairs R (xs ++ y ∷ []) → (k : ℕ) (d : A) → k < length xs → R (get_or xs k d) y
pairs_last {A = A} R xs y all k d inside =
    subst (λ (b : A). R (get_or xs k d) b) (last_at xs y d) (subst (λ (a : A). R a (get_or (xs ++ y ∷ []) (length xs) d)) (get_or-append xs (y ∷ []) d k inside) (all k (length xs) d inside (omega (arith, length-append xs (y ∷ [])))))

-- a list that is not empty has a last item
pub record Snoc {A : Type 0} (xs : List A) : Type 0 where
  pub front : List A
  pub last : A
  pub is : xs ≡ front ++ last ∷ []

snoc : {A : Type 0} (x : A) (xs : List A) → Snoc (x ∷ xs)
snoc x [] = record { front = []; last = x; is = refl }
snoc x (y ∷ xs) = let r = snoc y xs in record { front = x ∷ r.front; last = r.last; is = ap (λ ys. x ∷ ys) r.is }

ended : {A : Type 0} (xs : List A) → (xs ≡ []) ⊎ Snoc xs
ended [] = inl refl
ended (x ∷ xs) = inr (snoc x xs)

nil : {A : Type 0} (xs : List A) → length xs ≡ 0 → xs ≡ []
nil [] len = refl
nil (x ∷ xs) len = absurd (omega (arith, len))

-- a list with a last item is not empty
some_of : {A : Type 0} (xs : List A) → Snoc xs → xs ≢ []
some_of xs s none = let count : length xs ≡ length s.front + 1 = ap length s.is ∙ length-append s.front (s.last ∷ []) in let no : length xs ≡ 0 = ap length none in omega (arith, count, no)

-- ---- what a version asks for
has_by : (version : Version) (p : ProblemLists) → IsInPlace version p → ((p.events ≡ []) × (p.messages ≡ []) → ⊥) → HasWhatItNeeds version p
has_by First p placed some = tt
has_by Second p placed some = λ none. some (placed none)
has_by Third p placed some = λ none. some (none, placed none)

has_for : (version : Version) (p q : ProblemLists) → q.follows ≡ p.follows → q.events ≡ p.events → HasWhatItNeeds version p → HasWhatItNeeds version q
has_for First p q same same' has = tt
has_for Second p q same same' has = λ none. has (sym same ∙ none)
has_for Third p q same same' has = λ none. has (sym same' ∙ none)

abbrev LastLine : Version → ProblemLists → ℕ → Type 0
LastLine version s n = (r : ProblemLists) × (line : Line) × (size r ≡ n) × IsStep (problem_format version) With r line s

-- ---- clocks
abbrev clocks_alone : List Clock → ProblemLists
clocks_alone cs = record { clocks = cs; follows = []; events = []; messages = [] }

less_clock : (ds : List Clock) (c : Clock) → IsProblem (clocks_alone (ds ++ c ∷ [])) → IsProblem (clocks_alone ds)
less_clock ds c lawful = record {
  formed = record {
    clock_names = all_init (λ x. IsClockName x.name) ds c lawful.formed.clock_names;
    clocks_differ = pairs_init (λ a b. a.name ≢ b.name) ds c lawful.formed.clocks_differ;
    follow_ends = λ k d inside. absurd (omega (arith, inside));
    earliers_differ = lawful.formed.earliers_differ;
    laters_differ = lawful.formed.laters_differ;
    event_names = lawful.formed.event_names;
    events_differ = lawful.formed.events_differ;
    bounds_alike = lawful.formed.bounds_alike;
    event_clocks = λ k d inside. absurd (omega (arith, inside));
    sends = lawful.formed.sends;
    receives = lawful.formed.receives;
    two_ends = lawful.formed.two_ends;
    messages_differ = lawful.formed.messages_differ;
  };
  fits = record {
    clocks_fit = all_init ClockFits ds c lawful.fits.clocks_fit;
    clock_limit = omega (arith, lawful.fits.clock_limit, length-append ds (c ∷ []));
    gaps_fit = lawful.fits.gaps_fit;
    events_fit = lawful.fits.events_fit;
    event_limit = lawful.fits.event_limit;
    messages_fit = lawful.fits.messages_fit;
    message_limit = lawful.fits.message_limit;
  };
}

last_clock : (version : Version) (n : ℕ) (cs : List Clock) → Snoc cs → IsProblem (clocks_alone cs) → length cs ≡ suc n → LastLine version (clocks_alone cs) n
last_clock version n cs s lawful len =
    let c = s.last in
    let all = subst (λ (ds : List Clock). IsProblem (clocks_alone ds)) s.is lawful in
    let is : clocks_alone cs ≡ with_clock (clocks_alone s.front) c = ap clocks_alone s.is in (
      clocks_alone s.front,
      ClockLine c.name c.rate.short c.rate.long c.early c.late,
      omega (arith, len, ap length s.is, length-append s.front (c ∷ [])),
      record {
        sound = (less_clock s.front c all, clocks_in_order version (clocks_alone s.front) refl refl refl);
        may = (refl, refl, refl);
        spelled = all_last (λ x. IsClockName x.name) s.front c all.formed.clock_names;
        names = pairs_last (λ a b. a.name ≢ b.name) s.front c all.formed.clocks_differ;
        numbers = all_last ClockFits s.front c all.fits.clocks_fit;
        room = omega (arith, all.fits.clock_limit, length-append s.front (c ∷ []));
        adds = is;
        grows = subst (λ (q : ProblemLists). Grows (problem_format version) (clocks_alone s.front) q (clock_line c)) (sym is) (clock_grows version (clocks_alone s.front) c refl refl refl);
      },
    )

has_clock : (cs : List Clock) (k : ℕ) → k < length cs → slice_get (map (λ c. c.name) cs) k ≡ Some (clock_name cs k)
has_clock [] k inside = absurd (omega (arith, inside))
has_clock (c ∷ cs) zero inside = refl
has_clock (c ∷ cs) (suc k) inside = has_clock cs k (omega (arith, inside))

clock_name_is : (cs : List Clock) (k : ℕ) (d : Clock) → k < length cs → (get_or cs k d).name ≡ clock_name cs k
clock_name_is [] k d inside = absurd (omega (arith, inside))
clock_name_is (c ∷ cs) zero d inside = refl
clock_name_is (c ∷ cs) (suc k) d inside = clock_name_is cs k d (omega (arith, inside))

clock_named : (cs : List Clock) (k : ℕ) → All (λ c. IsClockName c.name) cs → k < length cs → IsClockName (clock_name cs k)
clock_named cs k all inside =
    let d : Clock = record { name = []; rate = record { short = 0; long = 0 }; early = 0; late = 0 } in
    subst IsClockName (clock_name_is cs k d inside) (all k d inside)

-- ---- follows
abbrev follows_on : List Clock → List Follow → ProblemLists
follows_on cs fs = record { clocks = cs; follows = fs; events = []; messages = [] }

less_follow : (cs : List Clock) (gs : List Follow) (f : Follow) → IsProblem (follows_on cs (gs ++ f ∷ [])) → IsProblem (follows_on cs gs)
less_follow cs gs f lawful = record {
  formed = record {
    clock_names = lawful.formed.clock_names;
    clocks_differ = lawful.formed.clocks_differ;
    follow_ends = all_init (LeadsOn cs) gs f lawful.formed.follow_ends;
    earliers_differ = pairs_init (λ a b. a.earlier ≢ b.earlier) gs f lawful.formed.earliers_differ;
    laters_differ = pairs_init (λ a b. a.later ≢ b.later) gs f lawful.formed.laters_differ;
    event_names = lawful.formed.event_names;
    events_differ = lawful.formed.events_differ;
    bounds_alike = lawful.formed.bounds_alike;
    event_clocks = lawful.formed.event_clocks;
    sends = lawful.formed.sends;
    receives = lawful.formed.receives;
    two_ends = lawful.formed.two_ends;
    messages_differ = lawful.formed.messages_differ;
  };
  fits = record {
    clocks_fit = lawful.fits.clocks_fit;
    clock_limit = lawful.fits.clock_limit;
    gaps_fit = all_init (λ x. x.gap < 2 ^ 62) gs f lawful.fits.gaps_fit;
    events_fit = lawful.fits.events_fit;
    event_limit = lawful.fits.event_limit;
    messages_fit = lawful.fits.messages_fit;
    message_limit = lawful.fits.message_limit;
  };
}

-- where the last follow is left out, all is in its place, and it may stand there
less_placed : (version : Version) (cs : List Clock) (fs gs : List Follow) → Snoc fs → IsInPlace version (follows_on cs fs) → IsInPlace version (follows_on cs gs)
less_placed First cs fs gs s placed = absurd (some_of fs s placed)
less_placed Second cs fs gs s placed = λ none. (refl, refl)
less_placed Third cs fs gs s placed = λ none. refl

may_follow : (version : Version) (cs : List Clock) (fs gs : List Follow) → Snoc fs → IsInPlace version (follows_on cs fs) → MayFollow version (follows_on cs gs)
may_follow First cs fs gs s placed = absurd (some_of fs s placed)
may_follow Second cs fs gs s placed = (refl, refl)
may_follow Third cs fs gs s placed = (refl, refl)

last_follow : (version : Version) (n : ℕ) (cs : List Clock) (fs : List Follow) → Snoc fs → IsSaid version (follows_on cs fs) → length fs + length cs ≡ suc n → LastLine version (follows_on cs fs) n
last_follow version n cs fs s said len =
    let f = s.last in
    let all = subst (λ (gs : List Follow). IsProblem (follows_on cs gs)) s.is said.0 in
    let is : follows_on cs fs ≡ with_follow (follows_on cs s.front) f = ap (follows_on cs) s.is in
    let leads : LeadsOn cs f = all_last (LeadsOn cs) s.front f all.formed.follow_ends in
    let from : f.earlier < length cs = let before = leads.0 in let last = leads.1 in omega (arith, before, last) in
    let at = has_clock cs f.earlier from in
    let at' = has_clock cs f.later leads.1 in (
      follows_on cs s.front,
      FollowLine (clock_name cs f.earlier) (clock_name cs f.later) f.gap,
      omega (arith, len, ap length s.is, length-append s.front (f ∷ [])),
      record {
        sound = (less_follow cs s.front f all, (less_placed version cs fs s.front s said.1.0, said.1.1));
        may = may_follow version cs fs s.front s said.1.0;
        spelled = (clock_named cs f.earlier all.formed.clock_names from, clock_named cs f.later all.formed.clock_names leads.1);
        names = (f.earlier, f.later, at, at', leads.0, pairs_last (λ a b. a.earlier ≢ b.earlier) s.front f all.formed.earliers_differ, pairs_last (λ a b. a.later ≢ b.later) s.front f all.formed.laters_differ);
        numbers = all_last (λ x. x.gap < 2 ^ 62) s.front f all.fits.gaps_fit;
        room = tt;
        adds = (f.earlier, f.later, at, at', is);
        grows = subst (λ (q : ProblemLists). Grows (problem_format version) (follows_on cs s.front) q (follow_line cs f)) (sym is) (follow_grows version (follows_on cs s.front) f refl refl);
      },
    )

-- ---- events
abbrev events_on : List Clock → List Follow → List Event → ProblemLists
events_on cs fs es = record { clocks = cs; follows = fs; events = es; messages = [] }

less_event : (cs : List Clock) (fs : List Follow) (ds : List Event) (e : Event) → IsProblem (events_on cs fs (ds ++ e ∷ [])) → IsProblem (events_on cs fs ds)
less_event cs fs ds e lawful = record {
  formed = record {
    clock_names = lawful.formed.clock_names;
    clocks_differ = lawful.formed.clocks_differ;
    follow_ends = lawful.formed.follow_ends;
    earliers_differ = lawful.formed.earliers_differ;
    laters_differ = lawful.formed.laters_differ;
    event_names = all_init (λ x. IsEventName x.name) ds e lawful.formed.event_names;
    events_differ = pairs_init (λ a b. a.name ≢ b.name) ds e lawful.formed.events_differ;
    bounds_alike = pairs_init (λ a b. is_some a.bounds ≡ is_some b.bounds) ds e lawful.formed.bounds_alike;
    event_clocks = all_init (λ x. x.clock < length cs) ds e lawful.formed.event_clocks;
    sends = λ k d inside. absurd (omega (arith, inside));
    receives = λ k d inside. absurd (omega (arith, inside));
    two_ends = lawful.formed.two_ends;
    messages_differ = lawful.formed.messages_differ;
  };
  fits = record {
    clocks_fit = lawful.fits.clocks_fit;
    clock_limit = lawful.fits.clock_limit;
    gaps_fit = lawful.fits.gaps_fit;
    events_fit = all_init EventFits ds e lawful.fits.events_fit;
    event_limit = omega (arith, lawful.fits.event_limit, length-append ds (e ∷ []));
    messages_fit = lawful.fits.messages_fit;
    message_limit = lawful.fits.message_limit;
  };
}

-- where the last event is left out, all is in its place
placed_before : (version : Version) (cs : List Clock) (fs : List Follow) (es ds : List Event) → Snoc es → IsInPlace version (events_on cs fs es) → IsInPlace version (events_on cs fs ds)
placed_before First cs fs es ds s placed = placed
placed_before Second cs fs es ds s placed = λ none. absurd (some_of es s (placed none).0)
placed_before Third cs fs es ds s placed = λ none. refl

-- what an event's line without bounds needs before it
plain_has : (version : Version) (cs : List Clock) (fs : List Follow) (es ds : List Event) → are_own version ≡ false → Snoc es → IsInPlace version (events_on cs fs es) → HasWhatItNeeds version (events_on cs fs ds)
plain_has First cs fs es ds plain s placed = tt
plain_has Second cs fs es ds plain s placed = λ none. some_of es s (placed none).0
plain_has Third cs fs es ds plain s placed = absurd cc

-- the line of an event, by its bounds: it spells the event, and may stand where these lines are
pub record LineOf (version : Version) (cs : List Clock) (fs : List Follow) (front : List Event) (e : Event) : Type 0 where
  pub line : Line
  pub may : MayStand version (events_on cs fs front) line
  pub spelled : IsSpelled line
  pub names : NamesFit (events_on cs fs front) line
  pub numbers : NumbersFit line
  pub room : HasRoomForLine (events_on cs fs front) line
  pub adds : With (events_on cs fs front) line (with_event (events_on cs fs front) e)
  pub is : line_of (line_words line) ≡ event_line cs e

line_by : (version : Version) (cs : List Clock) (fs : List Follow) (es front : List Event) (name : List ℕ) (k t : ℕ) (own : Option StampBounds) → Snoc es → IsInPlace version (events_on cs fs es) → is_some own ≡ are_own version →
    IsEventName name → IsClockName (clock_name cs k) → All (λ x. x.name ≢ name) front → HasClock (events_on cs fs front) k (clock_name cs k) → EventFits (record { name = name; clock = k; stamp = t; bounds = own }) → HasRoomForEvent (events_on cs fs front) →
    LineOf version cs fs front (record { name = name; clock = k; stamp = t; bounds = own })
line_by version cs fs es front name k t None s placed own named on new at fits room = record {
  line = EventLine name (clock_name cs k) t;
  may = (sym own, plain_has version cs fs es front (sym own) s placed, refl);
  spelled = (named, on);
  names = (new, (k, at));
  numbers = fits.0;
  room = room;
  adds = (k, at, refl);
  is = refl;
}
line_by version cs fs es front name k t (Some b) s placed own named on new at fits room = record {
  line = OwnLine name (clock_name cs k) t b.early b.late;
  may = (sym own, refl);
  spelled = (named, on);
  names = (new, (k, at));
  numbers = (fits.0, fits.1.0, fits.1.1);
  room = room;
  adds = (k, at, refl);
  is = refl;
}

last_event : (version : Version) (n : ℕ) (cs : List Clock) (fs : List Follow) (es : List Event) → Snoc es → IsSaid version (events_on cs fs es) → length es + length fs + length cs ≡ suc n → LastLine version (events_on cs fs es) n
last_event version n cs fs es s said len =
    let e = s.last in
    let all = subst (λ (ds : List Event). IsProblem (events_on cs fs ds)) s.is said.0 in
    let is : events_on cs fs es ≡ with_event (events_on cs fs s.front) e = ap (events_on cs fs) s.is in
    let bounded = subst (AreBounded (are_own version)) s.is said.1.1 in
    let known = all_last (λ x. x.clock < length cs) s.front e all.formed.event_clocks in
    let at = has_clock cs e.clock known in
    let room : HasRoomForEvent (events_on cs fs s.front) = omega (arith, all.fits.event_limit, length-append s.front (e ∷ [])) in
    let l = line_by version cs fs es s.front e.name e.clock e.stamp e.bounds s said.1.0 (all_last (λ x. is_some x.bounds ≡ are_own version) s.front e bounded)
    (all_last (λ x. IsEventName x.name) s.front e all.formed.event_names) (clock_named cs e.clock all.formed.clock_names known) (pairs_last (λ a b. a.name ≢ b.name) s.front e all.formed.events_differ) at (all_last EventFits s.front e all.fits.events_fit) room in (
      events_on cs fs s.front,
      l.line,
      omega (arith, len, ap length s.is, length-append s.front (e ∷ [])),
      record {
        sound = (less_event cs fs s.front e all, (placed_before version cs fs es s.front s said.1.0, all_init (λ x. is_some x.bounds ≡ are_own version) s.front e bounded));
        may = l.may;
        spelled = l.spelled;
        names = l.names;
        numbers = l.numbers;
        room = l.room;
        adds = subst (With (events_on cs fs s.front) l.line) (sym is) l.adds;
        grows = subst (λ (q : ProblemLists). Grows (problem_format version) (events_on cs fs s.front) q (line_of (line_words l.line))) (sym is) (subst (Grows (problem_format version) (events_on cs fs s.front) (with_event (events_on cs fs s.front) e)) (sym l.is) (event_grows version (events_on cs fs s.front) e refl));
      },
    )

-- ---- messages
abbrev all_on : List Clock → List Follow → List Event → List Message → ProblemLists
all_on cs fs es ms = record { clocks = cs; follows = fs; events = es; messages = ms }

less_message : (cs : List Clock) (fs : List Follow) (es : List Event) (ds : List Message) (m : Message) → IsProblem (all_on cs fs es (ds ++ m ∷ [])) → IsProblem (all_on cs fs es ds)
less_message cs fs es ds m lawful = record {
  formed = record {
    clock_names = lawful.formed.clock_names;
    clocks_differ = lawful.formed.clocks_differ;
    follow_ends = lawful.formed.follow_ends;
    earliers_differ = lawful.formed.earliers_differ;
    laters_differ = lawful.formed.laters_differ;
    event_names = lawful.formed.event_names;
    events_differ = lawful.formed.events_differ;
    bounds_alike = lawful.formed.bounds_alike;
    event_clocks = lawful.formed.event_clocks;
    sends = all_init (λ x. x.send < length es) ds m lawful.formed.sends;
    receives = all_init (λ x. x.receive < length es) ds m lawful.formed.receives;
    two_ends = all_init (λ x. x.send ≢ x.receive) ds m lawful.formed.two_ends;
    messages_differ = pairs_init (λ a b. (a.send ≡ b.send) → (a.receive ≡ b.receive) → ⊥) ds m lawful.formed.messages_differ;
  };
  fits = record {
    clocks_fit = lawful.fits.clocks_fit;
    clock_limit = lawful.fits.clock_limit;
    gaps_fit = lawful.fits.gaps_fit;
    events_fit = lawful.fits.events_fit;
    event_limit = lawful.fits.event_limit;
    messages_fit = all_init MessageFits ds m lawful.fits.messages_fit;
    message_limit = omega (arith, lawful.fits.message_limit, length-append ds (m ∷ []));
  };
}

has_event : (es : List Event) (k : ℕ) → k < length es → slice_get (map (λ e. e.name) es) k ≡ Some (event_name es k)
has_event [] k inside = absurd (omega (arith, inside))
has_event (e ∷ es) zero inside = refl
has_event (e ∷ es) (suc k) inside = has_event es k (omega (arith, inside))

event_name_is : (es : List Event) (k : ℕ) (d : Event) → k < length es → (get_or es k d).name ≡ event_name es k
event_name_is [] k d inside = absurd (omega (arith, inside))
event_name_is (e ∷ es) zero d inside = refl
event_name_is (e ∷ es) (suc k) d inside = event_name_is es k d (omega (arith, inside))

event_named : (es : List Event) (k : ℕ) → All (λ e. IsEventName e.name) es → k < length es → IsEventName (event_name es k)
event_named es k all inside = let d : Event = record { name = []; clock = 0; stamp = 0; bounds = None } in subst IsEventName (event_name_is es k d inside) (all k d inside)

last_message : (version : Version) (n : ℕ) (cs : List Clock) (fs : List Follow) (es : List Event) (ms : List Message) → Snoc ms → IsSaid version (all_on cs fs es ms) → length ms + length es + length fs + length cs ≡ suc n →
    LastLine version (all_on cs fs es ms) n
last_message version n cs fs es ms s said len =
    let m = s.last in
    let all = subst (λ (ds : List Message). IsProblem (all_on cs fs es ds)) s.is said.0 in
    let is : all_on cs fs es ms ≡ with_message (all_on cs fs es s.front) m = ap (all_on cs fs es) s.is in
    let has = has_by version (all_on cs fs es ms) said.1.0 (λ none. some_of ms s none.1) in
    let send = all_last (λ x. x.send < length es) s.front m all.formed.sends in
    let receive = all_last (λ x. x.receive < length es) s.front m all.formed.receives in
    let at = has_event es m.send send in
    let at' = has_event es m.receive receive in (
      all_on cs fs es s.front,
      MessageLine (event_name es m.send) (event_name es m.receive) m.least m.most,
      omega (arith, len, ap length s.is, length-append s.front (m ∷ [])),
      record {
        sound = (less_message cs fs es s.front m all, more_in_order version (all_on cs fs es ms) (all_on cs fs es s.front) has refl refl said.1);
        may = has_for version (all_on cs fs es ms) (all_on cs fs es s.front) refl refl has;
        spelled = (event_named es m.send all.formed.event_names send, event_named es m.receive all.formed.event_names receive);
        names = (m.send, m.receive, at, at', all_last (λ x. x.send ≢ x.receive) s.front m all.formed.two_ends, pairs_last (λ a b. (a.send ≡ b.send) → (a.receive ≡ b.receive) → ⊥) s.front m all.formed.messages_differ);
        numbers = all_last MessageFits s.front m all.fits.messages_fit;
        room = omega (arith, all.fits.message_limit, length-append s.front (m ∷ []));
        adds = (m.send, m.receive, at, at', is);
        grows = subst (λ (q : ProblemLists). Grows (problem_format version) (all_on cs fs es s.front) q (message_line es m)) (sym is) (message_grows version (all_on cs fs es s.front) m);
      },
    )

-- ---- all
no_messages_is : (p : ProblemLists) → p.messages ≡ [] → p ≡ events_on p.clocks p.follows p.events
no_messages_is p none = ap (all_on p.clocks p.follows p.events) none

no_events_is : (p : ProblemLists) → p.messages ≡ [] → p.events ≡ [] → p ≡ follows_on p.clocks p.follows
no_events_is p none none' = no_messages_is p none ∙ ap (events_on p.clocks p.follows) none'

no_follows_is : (p : ProblemLists) → p.messages ≡ [] → p.events ≡ [] → p.follows ≡ [] → p ≡ clocks_alone p.clocks
no_follows_is p none none' none'' = no_events_is p none none' ∙ ap (follows_on p.clocks) none''

last_line : (version : Version) (p : ProblemLists) (n : ℕ) → IsSaid version p → size p ≡ suc n → LastLine version p n
last_line version p n said len =
    elim (ended p.messages) [
      | inr s ↦ last_message version n p.clocks p.follows p.events p.messages s said len
      | inl none ↦
          let no_messages = ap length none in
          let same = no_messages_is p none in
          elim (ended p.events) [
            | inr s ↦ subst (λ (q : ProblemLists). LastLine version q n) (sym same) (last_event version n p.clocks p.follows p.events s (subst (IsSaid version) same said) (omega (arith, len, no_messages)))
            | inl none' ↦
                let no_events = ap length none' in
                let same' = no_events_is p none none' in
                elim (ended p.follows) [
                  | inr s ↦ subst (λ (q : ProblemLists). LastLine version q n) (sym same') (last_follow version n p.clocks p.follows s (subst (IsSaid version) same' said) (omega (arith, len, no_messages, no_events)))
                  | inl none'' ↦
                      let no_follows = ap length none'' in
                      let same'' = no_follows_is p none none' none'' in
                      elim (ended p.clocks) [
                        | inr s ↦ subst (λ (q : ProblemLists). LastLine version q n) (sym same'') (last_clock version n p.clocks s (subst IsProblem same'' said.0) (omega (arith, len, no_messages, no_events, no_follows)))
                        | inl bare ↦ absurd (let no_clocks = ap length bare in omega (arith, len, no_messages, no_events, no_follows, no_clocks))
                      ]
                ]
          ]
    ]

first_is : (p : ProblemLists) → size p ≡ 0 → p ≡ empty_problem
first_is p len =
    no_follows_is p (nil p.messages (omega (arith, len))) (nil p.events (omega (arith, len))) (nil p.follows (omega (arith, len))) ∙ ap clocks_alone (nil p.clocks (omega (arith, len)))

pub problem_readable : (version : Version) → IsReadable (problem_format version) With empty_problem size
problem_readable version = record {
  lacks = line_lacks;
  one_line = words_one;
  one_next = λ s line t u said a b. with_one s line t u said.0 a b;
  end_spelled = tt;
  end_fits = λ s. (tt, tt, tt);
  end_adds = λ s t adds. adds;
  start_text = start_is version;
  start_size = λ s said len. first_is s len;
  last_line = last_line version;
}

-- ---- a text has one answer
pub problem_answers_one : (text : List ℕ) (a b : Answer ProblemLists) → AnswersProblem text a → AnswersProblem text b → a ≡ b
problem_answers_one text a b x y = elim (second_or_not text) [
  | inl second ↦ answers_one (problem_format Second) With empty_problem size (problem_readable Second) text a b (x.second second) (y.second second)
  | inr other ↦ elim (third_or_not text) [
    | inl third ↦ answers_one (problem_format Third) With empty_problem size (problem_readable Third) text a b (x.third third) (y.third third)
    | inr another ↦ answers_one (problem_format First) With empty_problem size (problem_readable First) text a b (x.first other another) (y.first other another)
  ]
]
