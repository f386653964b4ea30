-- A widened problem has the nodes and the names of bounds that the problem has, and other weights alone.
use Rattle.std.proofs.Common.{◌≡◌, ◌≢◌, ◌<◌, ◌+◌, ◌-◌, ◌*◌, ℕ, zero, suc, Bool, true, false, List, [], ◌∷◌, ◌++◌, length, map, get_or, slice_get, Option, Some, None, is_some, refl, sym, ◌∙◌, ap, subst, arith}
use Rattle.std.specs.Prelude.{All, AllPairs, Contains, ℤ, pos, neg_ℤ, if◌then◌else◌, ⊤}
use Rattle.std.specs.List.{flat_map}
use Rattle.std.proofs.lemmas.Int.{ints}
use Rattle.std.proofs.lemmas.List.{length-map, get_or-map}
use Rattle.std.proofs.lemmas.Option.{slice_get-get_or, slice_get_within, get_or_from_slice_get}
use Rattle.atto.specs.Span.{most_of, least_of}
use Rattle.problem_model.specs.declared.items.Clock.{Clock}
use Rattle.problem_model.specs.declared.items.Event.{Event}
use Rattle.problem_model.specs.declared.items.StampBounds.{StampBounds}
use Rattle.problem_model.specs.declared.items.Follow.{Follow}
use Rattle.problem_model.specs.declared.items.Message.{Message}
use Rattle.problem_model.specs.declared.items.Bound.{Bound}
use Rattle.problem_model.specs.declared.items.Bound.TheVariants as bounds
use Rattle.problem_model.specs.declared.items.Bound.TheVariants.{SpanMost, SpanLeast, Late, Early, DelayMost, DelayLeast}
use Rattle.problem_model.specs.declared.items.Node.TheVariants as nodes
use Rattle.problem_model.specs.Problem.{ProblemLists, LeadsOn, IsWellFormed}
use Rattle.problem_model.specs.Name.{IsClockName, IsEventName}
use Rattle.problem_model.specs.Bounds.{Constraint, IsReading, ClockAt, LinesLead, ComesAfter, Declares, Times, early_of, late_of}
use Rattle.problem_model.specs.Nodes.{Reading, AreReadings}
use Rattle.problem_model.specs.ShortList.{span_bounds, event_bounds, follow_bounds, most_bound, message_bounds}
use Rattle.problem.specs.Nearest.{gap_between}
use Rattle.cert.specs.declared.chain.Step.{Step}
use Rattle.cert.specs.CertificateText.{IsStepOf}
use Rattle.cert_check.specs.declared.verdict.Verdict.{Verdict}
use Rattle.cert_check.specs.declared.what.Links.TheVariants as links
use Rattle.cert_check.specs.declared.what.What.{What}
use Rattle.cert_check.specs.declared.what.What.TheVariants.{Delays, Least, Stamps, Rates, Gaps}
use Rattle.cert_check.specs.Reasons.{joining_bounds}
use Rattle.cert_check.specs.Verdict.{Judges, IsVerdict}
use Rattle.cert_check.specs.Widened.{has_clock, added_to, gap_left, widened_follows, widened_most, with_wider_rate, with_wider_stamps, widened_clock, clocks_by, widened_clocks, wider_bounds, widened_own, widened_event, widened_events, widened_message, widened}
use Rattle.cert_check.proofs.Loops.{whole_verdict}
use Rattle.cert_check.proofs.GapsLeft.{widened_follow, follows_are, listed_same}
use Rattle.cert_check.proofs.Messages.{some_same}
use Rattle.cert_check.proofs.Named.{there_is}

-- ---- widened by nothing
pub most_same : (o : Option ℕ) → widened_most 0 o ≡ o
most_same None = refl
most_same (Some most) = ap Some (let same : most + 0 ≡ most = omega arith in same)

message_same : (events : List Event) (m : Message) → widened_message (Delays links.All) events 0 m ≡ m
message_same events m = ap (λ (o : Option ℕ). record { send = m.send; receive = m.receive; least = m.least; most = o }) (most_same m.most)

messages_same : (events : List Event) (ms : List Message) → map (widened_message (Delays links.All) events 0) ms ≡ ms
messages_same events [] = refl
messages_same events (m ∷ ms) = rw (message_same events m, messages_same events ms) refl

pub not_widened : (p : ProblemLists) → widened (Delays links.All) p 0 ≡ p
not_widened p = ap (λ (ms : List Message). record { clocks = p.clocks; follows = p.follows; events = p.events; messages = ms }) (messages_same p.events p.messages)

-- ---- items that are widened each by itself
module _ {X : Type 0} (f : X → X) where
  pub contained : (xs : List X) (x : X) → Contains xs x → Contains (map f xs) (f x)
  contained xs x (k, inside, is) = (k, omega (arith, inside, length-map xs f), get_or-map f xs k x (f x) inside ∙ ap f is)

  -- a widened item is one that was widened
  pub widened_from : (xs : List X) (y : X) → Contains (map f xs) y → (x : X) × Contains xs x × (y ≡ f x)
  widened_from [] y (k, inside, is) = absurd (omega (arith, inside))
  widened_from (x ∷ xs) y (zero, inside, is) = (x, (0, omega arith, refl), sym is)
  widened_from (x ∷ xs) y (suc k, inside, is) =
      let rest = widened_from xs y (k, omega (arith, inside), is) in
      (rest.0, (suc rest.1.0, omega (arith, rest.1.1), rest.1.2), rest.2)

  -- what widening keeps of each, and of each two, all have
  all_widened : (P : X → Type 0) (xs : List X) → ((x : X) → P x → P (f x)) → All P xs → All P (map f xs)
  all_widened P xs keeps all k d inside =
      let within : k < length xs = omega (arith, inside, length-map xs f) in
      subst P (sym (get_or-map f xs k d d within)) (keeps _ (all k d within))

  pairs_widened : (R : X → X → Type 0) (xs : List X) → ((a b : X) → R a b → R (f a) (f b)) → AllPairs R xs → AllPairs R (map f xs)
  pairs_widened R xs keeps all i j d below inside =
      let within : j < length xs = omega (arith, inside, length-map xs f) in
      subst (λ (b : X). R (get_or (map f xs) i d) b) (sym (get_or-map f xs j d d within))
      (subst (λ (a : X). R a (f (get_or xs j d))) (sym (get_or-map f xs i d d (omega (arith, below, within)))) (keeps _ _ (all i j d below within)))

-- ---- follows
pub follow_in : (what : What) (e : ℕ) (fs : List Follow) (f : Follow) → Contains fs f → Contains (widened_follows what e fs) (widened_follow what e f)
follow_in what e fs f has = subst (λ (gs : List Follow). Contains gs (widened_follow what e f)) (sym (follows_are what e fs)) (contained (widened_follow what e) fs f has)

pub follow_from : (what : What) (e : ℕ) (fs : List Follow) (g : Follow) → Contains (widened_follows what e fs) g → (f : Follow) × Contains fs f × (g ≡ widened_follow what e f)
follow_from what e fs g has = widened_from (widened_follow what e) fs g (subst (λ (gs : List Follow). Contains gs g) (follows_are what e fs) has)

-- ---- messages
-- the names of its bounds are the same
bounds_of_most : (m n : Message) (e : ℕ) (o : Option ℕ) → n.send ≡ m.send → n.receive ≡ m.receive → most_bound n (widened_most e o) ≡ most_bound m o
bounds_of_most m n e None from to = refl
bounds_of_most m n e (Some most) from to = rw (from, to) refl

pub bounds_same : (what : What) (events : List Event) (e : ℕ) (ms : List Message) → flat_map message_bounds (map (widened_message what events e) ms) ≡ flat_map message_bounds ms
bounds_same what events e [] = refl
bounds_same what events e (m ∷ ms) = rw (bounds_of_most m (widened_message what events e m) (added_to what events e m) m.most refl refl, bounds_same what events e ms) refl

-- ---- clocks
module _ (f : ℕ → Clock → Clock) where
  by_there : (j : ℕ) (cs : List Clock) (k : ℕ) (c : Clock) → slice_get cs k ≡ Some c → slice_get (clocks_by f j cs) k ≡ Some (f (j + k) c)
  by_there j [] k c at = absurd cc
  by_there j (b ∷ cs) zero c at =
      let same : b ≡ c = some_same b c at in
      let place : j ≡ j + 0 = omega arith in
      ap (λ (v : Clock). Some (f j v)) same ∙ ap (λ (n : ℕ). Some (f n c)) place
  by_there j (b ∷ cs) (suc k) c at =
      let place : j + 1 + k ≡ j + suc k = omega arith in
      by_there (j + 1) cs k c at ∙ ap (λ (n : ℕ). Some (f n c)) place

  by_long : (j : ℕ) (cs : List Clock) → length (clocks_by f j cs) ≡ length cs
  by_long j [] = refl
  by_long j (c ∷ cs) = let rest = by_long (j + 1) cs in omega (arith, rest)

  from_first : (cs : List Clock) (k : ℕ) (c : Clock) → slice_get cs k ≡ Some c → slice_get (clocks_by f 0 cs) k ≡ Some (f k c)
  from_first cs k c at = let place : 0 + k ≡ k = omega arith in by_there 0 cs k c at ∙ ap (λ (n : ℕ). Some (f n c)) place

pub widened_at : (what : What) (e : ℕ) (cs : List Clock) (k : ℕ) (c : Clock) → slice_get cs k ≡ Some c → slice_get (widened_clocks what e cs) k ≡ Some (widened_clock what e k c)
widened_at (Delays which) e cs k c at = at
widened_at (Least which) e cs k c at = at
widened_at (Stamps which) e cs k c at = from_first (widened_clock (Stamps which) e) cs k c at
widened_at (Rates which) e cs k c at = from_first (widened_clock (Rates which) e) cs k c at
widened_at Gaps e cs k c at = at

pub as_long : (what : What) (e : ℕ) (cs : List Clock) → length (widened_clocks what e cs) ≡ length cs
as_long (Delays which) e cs = refl
as_long (Least which) e cs = refl
as_long (Stamps which) e cs = by_long (widened_clock (Stamps which) e) 0 cs
as_long (Rates which) e cs = by_long (widened_clock (Rates which) e) 0 cs
as_long Gaps e cs = refl

-- a widened clock is one that was widened
pub clock_from : (what : What) (e : ℕ) (cs : List Clock) (k : ℕ) (d : Clock) → slice_get (widened_clocks what e cs) k ≡ Some d → (c : Clock) × (slice_get cs k ≡ Some c) × (d ≡ widened_clock what e k c)
clock_from what e cs k d at =
    let within = slice_get_within (widened_clocks what e cs) k d at in
    let there = there_is cs k (omega (arith, within, as_long what e cs)) in
    (there.0, there.1, some_same d (widened_clock what e k there.0) (sym at ∙ widened_at what e cs k there.0 there.1))

-- it has its name
name_either : (b : Bool) (c d : Clock) → d.name ≡ c.name → (if b then d else c).name ≡ c.name
name_either true c d same = same
name_either false c d same = refl

name_same : (what : What) (e k : ℕ) (c : Clock) → (widened_clock what e k c).name ≡ c.name
name_same (Delays which) e k c = refl
name_same (Least which) e k c = refl
name_same (Stamps which) e k c = name_either (has_clock which k) c (with_wider_stamps e c) refl
name_same (Rates which) e k c = name_either (has_clock which k) c (with_wider_rate e c) refl
name_same Gaps e k c = refl

name_at : (what : What) (e : ℕ) (cs : List Clock) (k : ℕ) (d : Clock) → k < length cs → (get_or (widened_clocks what e cs) k d).name ≡ (get_or cs k d).name
name_at what e cs k d inside =
    let at = widened_at what e cs k (get_or cs k d) (slice_get-get_or cs k d inside) in
    ap (λ (c : Clock). c.name) (get_or_from_slice_get (widened_clocks what e cs) k (widened_clock what e k (get_or cs k d)) d at) ∙ name_same what e k (get_or cs k d)

-- ---- events
all_kept : (f : Event → Event) → ((v : Event) → f v ≡ v) → (vs : List Event) → map f vs ≡ vs
all_kept f same [] = refl
all_kept f same (v ∷ vs) = rw (same v, all_kept f same vs) refl

pub events_are : (what : What) (e : ℕ) (vs : List Event) → widened_events what e vs ≡ map (widened_event what e) vs
events_are (Delays which) e vs = sym (all_kept (widened_event (Delays which) e) (λ v. refl) vs)
events_are (Least which) e vs = sym (all_kept (widened_event (Least which) e) (λ v. refl) vs)
events_are (Stamps which) e vs = refl
events_are (Rates which) e vs = sym (all_kept (widened_event (Rates which) e) (λ v. refl) vs)
events_are Gaps e vs = sym (all_kept (widened_event Gaps e) (λ v. refl) vs)

mapped_at : (f : Event → Event) (vs : List Event) (k : ℕ) (v : Event) → slice_get vs k ≡ Some v → slice_get (map f vs) k ≡ Some (f v)
mapped_at f [] k v at = absurd cc
mapped_at f (w ∷ vs) zero v at = ap (λ (u : Event). Some (f u)) (some_same w v at)
mapped_at f (w ∷ vs) (suc k) v at = mapped_at f vs k v at

pub event_at : (what : What) (e : ℕ) (vs : List Event) (k : ℕ) (v : Event) → slice_get vs k ≡ Some v → slice_get (widened_events what e vs) k ≡ Some (widened_event what e v)
event_at what e vs k v at = ap (λ (ws : List Event). slice_get ws k) (events_are what e vs) ∙ mapped_at (widened_event what e) vs k v at

events_long : (what : What) (e : ℕ) (vs : List Event) → length (widened_events what e vs) ≡ length vs
events_long what e vs = ap length (events_are what e vs) ∙ length-map vs (widened_event what e)

-- a widened event is one that was widened
pub event_from : (what : What) (e : ℕ) (vs : List Event) (k : ℕ) (w : Event) → slice_get (widened_events what e vs) k ≡ Some w → (v : Event) × (slice_get vs k ≡ Some v) × (w ≡ widened_event what e v)
event_from what e vs k w at =
    let within = slice_get_within (widened_events what e vs) k w at in
    let there = there_is vs k (omega (arith, within, events_long what e vs)) in
    (there.0, there.1, some_same w (widened_event what e there.0) (sym at ∙ event_at what e vs k there.0 there.1))

-- it has bounds of its own where the event has
own_either : (b : Bool) (own : Option StampBounds) (e : ℕ) → is_some (if b then wider_bounds e own else own) ≡ is_some own
own_either true None e = refl
own_either true (Some o) e = refl
own_either false own e = refl

own_same : (what : What) (e : ℕ) (v : Event) → is_some (widened_own what e v) ≡ is_some v.bounds
own_same (Delays which) e v = refl
own_same (Least which) e v = refl
own_same (Stamps which) e v = own_either (has_clock which v.clock) v.bounds e
own_same (Rates which) e v = refl
own_same Gaps e v = refl

-- the names of the bounds on stamps are the same
stamps_mapped : (f : Event → Event) (k : ℕ) (vs : List Event) → event_bounds k (map f vs) ≡ event_bounds k vs
stamps_mapped f k [] = refl
stamps_mapped f k (v ∷ vs) = ap (λ (bs : List Bound). Late k ∷ Early k ∷ bs) (stamps_mapped f (k + 1) vs)

pub stamps_same : (what : What) (e : ℕ) (vs : List Event) → event_bounds 0 (widened_events what e vs) ≡ event_bounds 0 vs
stamps_same what e vs = ap (event_bounds 0) (events_are what e vs) ∙ stamps_mapped (widened_event what e) 0 vs

-- ---- from the bounds of a problem to those of another one whose events have the same stamps
-- what the weights by a clock, by a follow and by a message become
pub record ClockGoes (R : ℤ → ℤ → Type 0) (c d : Clock) : Type 0 where
  pub most : (n : ℕ) → R (pos (most_of c.rate n)) (pos (most_of d.rate n))
  pub least : (n : ℕ) → R (neg_ℤ (pos (least_of c.rate n))) (neg_ℤ (pos (least_of d.rate n)))

-- the event has its stamp from the same clock
pub record EventGoes (v w : Event) : Type 0 where
  pub clock : w.clock ≡ v.clock
  pub stamp : w.stamp ≡ v.stamp

-- what the weights of the bounds on its stamp become
pub record StampGoes (R : ℤ → ℤ → Type 0) (c d : Clock) (v w : Event) : Type 0 where
  pub late : R (pos (late_of c v * 1000000000)) (pos (late_of d w * 1000000000))
  pub early : R (pos (early_of c v * 1000000000)) (pos (early_of d w * 1000000000))

pub record FollowGoes (R : ℤ → ℤ → Type 0) (f g : Follow) : Type 0 where
  pub earlier : g.earlier ≡ f.earlier
  pub later : g.later ≡ f.later
  pub gap : R (neg_ℤ (pos (f.gap * 1000000000))) (neg_ℤ (pos (g.gap * 1000000000)))

pub record MessageGoes (R : ℤ → ℤ → Type 0) (m n : Message) : Type 0 where
  pub send : n.send ≡ m.send
  pub receive : n.receive ≡ m.receive
  pub least : R (neg_ℤ (pos (m.least * 1000000000))) (neg_ℤ (pos (n.least * 1000000000)))
  pub most : (o : ℕ) → m.most ≡ Some o → (o' : ℕ) × (n.most ≡ Some o') × R (pos (o * 1000000000)) (pos (o' * 1000000000))

module _ (p : ProblemLists) (cs : List Clock) (fs : List Follow) (es : List Event) (ms : List Message) (R : ℤ → ℤ → Type 0) where
  abbrev other : ProblemLists
  other = record { clocks = cs; follows = fs; events = es; messages = ms }

  module _ (follows_go : (f : Follow) → Contains p.follows f → (g : Follow) × Contains fs g × FollowGoes R f g) where
    leads_on : (c : ℕ) (lines : List Follow) (d : ℕ) → LinesLead p c lines d → (others : List Follow) × LinesLead other c others d
    leads_on c [] d leads = ([], leads)
    leads_on c (f ∷ lines) d (has, from, leads) =
        let there = follows_go f has in
        let rest = leads_on f.later lines d leads in
        (there.0 ∷ rest.0, (there.1, there.2.earlier ∙ from, subst (λ (k : ℕ). LinesLead other k rest.0 d) (sym there.2.later) rest.1))

    pub comes_on : (c d : ℕ) → ComesAfter p c d → ComesAfter other c d
    comes_on c d (f, lines, (has, from, leads)) =
        let there = follows_go f has in
        let rest = leads_on f.later lines d leads in
        (there.0, rest.0, (there.1, there.2.earlier ∙ from, subst (λ (k : ℕ). LinesLead other k rest.0 d) (sym there.2.later) rest.1))

  module _ (events_go : (k : ℕ) (v : Event) → slice_get p.events k ≡ Some v → (w : Event) × (slice_get es k ≡ Some w) × EventGoes v w) where
    pub reading_goes : (k s : ℕ) → IsReading p k s → IsReading other k s
    reading_goes k s (v, (j, inside, is), on, reads) =
        let at : slice_get p.events j ≡ Some v = slice_get-get_or p.events j v inside ∙ ap Some is in
        let there = events_go j v at in
        (there.0, (j, slice_get_within es j there.0 there.1, get_or_from_slice_get es j there.0 there.0 there.1), there.2.clock ∙ on, there.2.stamp ∙ reads)

  module _ (clocks_go : (k : ℕ) (c : Clock) → ClockAt p k c → (d : Clock) × (slice_get cs k ≡ Some d) × ClockGoes R c d)
      (events_go : (k : ℕ) (v : Event) → slice_get p.events k ≡ Some v → (w : Event) × (slice_get es k ≡ Some w) × EventGoes v w)
      (stamps_go : (k : ℕ) (v : Event) (c : Clock) (at : slice_get p.events k ≡ Some v) (on : ClockAt p v.clock c) → StampGoes R c (clocks_go v.clock c on).0 v (events_go k v at).0)
      (follows_go : (f : Follow) → Contains p.follows f → (g : Follow) × Contains fs g × FollowGoes R f g)
      (messages_go : (m : Message) → Contains p.messages m → (n : Message) × Contains ms n × MessageGoes R m n) where
    pub declared_by : (b : Bound) (c : Constraint) → Declares p b c → (d : Constraint) × Declares other b d × R c.weight d.weight
    declared_by (SpanMost clock s t) c (k, at, is_s, is_t, less, is) =
        let there = clocks_go clock k at in (
          record { from = nodes.Reading clock s; to = nodes.Reading clock t; weight = pos (most_of there.0.rate (t - s)) },
          (there.0, there.1, reading_goes events_go clock s is_s, reading_goes events_go clock t is_t, less, refl),
          subst (λ (v : Constraint). R v.weight (pos (most_of there.0.rate (t - s)))) (sym is) (there.2.most (t - s)),
        )
    declared_by (SpanLeast clock s t) c (k, at, is_s, is_t, less, is) =
        let there = clocks_go clock k at in (
          record { from = nodes.Reading clock t; to = nodes.Reading clock s; weight = neg_ℤ (pos (least_of there.0.rate (t - s))) },
          (there.0, there.1, reading_goes events_go clock s is_s, reading_goes events_go clock t is_t, less, refl),
          subst (λ (v : Constraint). R v.weight (neg_ℤ (pos (least_of there.0.rate (t - s))))) (sym is) (there.2.least (t - s)),
        )
    declared_by (Late e) c (v, k, at, clock_at, is) =
        let there = clocks_go v.clock k clock_at in
        let event = events_go e v at in (
          record { from = nodes.Reading event.0.clock event.0.stamp; to = nodes.Event e; weight = pos (late_of there.0 event.0 * 1000000000) },
          (event.0, there.0, event.1, subst (λ (n : ℕ). ClockAt other n there.0) (sym event.2.clock) there.1, refl),
          subst (λ (a : Constraint). R a.weight (pos (late_of there.0 event.0 * 1000000000))) (sym is) (stamps_go e v k at clock_at).late,
        )
    declared_by (Early e) c (v, k, at, clock_at, is) =
        let there = clocks_go v.clock k clock_at in
        let event = events_go e v at in (
          record { from = nodes.Event e; to = nodes.Reading event.0.clock event.0.stamp; weight = pos (early_of there.0 event.0 * 1000000000) },
          (event.0, there.0, event.1, subst (λ (n : ℕ). ClockAt other n there.0) (sym event.2.clock) there.1, refl),
          subst (λ (a : Constraint). R a.weight (pos (early_of there.0 event.0 * 1000000000))) (sym is) (stamps_go e v k at clock_at).early,
        )
    declared_by (bounds.Follow k s l t) c (f, has, later, after, is_s, is_t, is) =
        let there = follows_go f has in (
          gap_between k s l t there.0.gap,
          (there.0, there.1, there.2.later ∙ later, comes_on follows_go k l after, reading_goes events_go k s is_s, reading_goes events_go l t is_t, refl),
          subst (λ (a : Constraint). R a.weight (neg_ℤ (pos (there.0.gap * 1000000000)))) (sym is) there.2.gap,
        )
    declared_by (DelayMost send receive) c (m, most, has, from, to, at, is) =
        let there = messages_go m has in
        let greatest = there.2.most most at in (
          record { from = nodes.Event send; to = nodes.Event receive; weight = pos (greatest.0 * 1000000000) },
          (there.0, greatest.0, there.1, there.2.send ∙ from, there.2.receive ∙ to, greatest.1, refl),
          subst (λ (a : Constraint). R a.weight (pos (greatest.0 * 1000000000))) (sym is) greatest.2,
        )
    declared_by (DelayLeast send receive) c (m, has, from, to, is) =
        let there = messages_go m has in (
          record { from = nodes.Event receive; to = nodes.Event send; weight = neg_ℤ (pos (there.0.least * 1000000000)) },
          (there.0, there.1, there.2.send ∙ from, there.2.receive ∙ to, refl),
          subst (λ (a : Constraint). R a.weight (neg_ℤ (pos (there.0.least * 1000000000)))) (sym is) there.2.least,
        )

module _ (what : What) (p : ProblemLists) (e : ℕ) where
  abbrev q : ProblemLists
  q = widened what p e

  abbrev grow : Message → Message
  grow = widened_message what p.events e

  -- ---- what is formed well is so when it is widened
  long : length q.clocks ≡ length p.clocks
  long = as_long what e p.clocks

  long_events : length q.events ≡ length p.events
  long_events = events_long what e p.events

  events_all : (P : Event → Type 0) → ((v : Event) → P v → P (widened_event what e v)) → All P p.events → All P q.events
  events_all P keeps all = subst (λ (vs : List Event). All P vs) (sym (events_are what e p.events)) (all_widened (widened_event what e) P p.events keeps all)

  events_pairs : (R : Event → Event → Type 0) → ((v w : Event) → R v w → R (widened_event what e v) (widened_event what e w)) → AllPairs R p.events → AllPairs R q.events
  events_pairs R keeps all = subst (λ (vs : List Event). AllPairs R vs) (sym (events_are what e p.events)) (pairs_widened (widened_event what e) R p.events keeps all)

  follows_all : (P : Follow → Type 0) → ((f : Follow) → P f → P (widened_follow what e f)) → All P p.follows → All P q.follows
  follows_all P keeps all = subst (λ (fs : List Follow). All P fs) (sym (follows_are what e p.follows)) (all_widened (widened_follow what e) P p.follows keeps all)

  follows_pairs : (R : Follow → Follow → Type 0) → ((f g : Follow) → R f g → R (widened_follow what e f) (widened_follow what e g)) → AllPairs R p.follows → AllPairs R q.follows
  follows_pairs R keeps all = subst (λ (fs : List Follow). AllPairs R fs) (sym (follows_are what e p.follows)) (pairs_widened (widened_follow what e) R p.follows keeps all)

  pub formed : IsWellFormed p → IsWellFormed q
  formed f = record {
    clock_names = λ k d inside. (let within : k < length p.clocks = omega (arith, inside, long) in subst IsClockName (sym (name_at what e p.clocks k d within)) (f.clock_names k d within));
    clocks_differ = λ i j d below inside same. (
        let within : j < length p.clocks = omega (arith, inside, long) in
        f.clocks_differ i j d below within (sym (name_at what e p.clocks i d (omega (arith, below, within))) ∙ same ∙ name_at what e p.clocks j d within));
    follow_ends = follows_all (LeadsOn q.clocks) (λ g x. x) (λ k d inside. (let ends = f.follow_ends k d inside in (ends.0, (let within = ends.1 in omega (arith, within, long)))));
    earliers_differ = follows_pairs (λ a b. a.earlier ≢ b.earlier) (λ a b x. x) f.earliers_differ;
    laters_differ = follows_pairs (λ a b. a.later ≢ b.later) (λ a b x. x) f.laters_differ;
    event_names = events_all (λ v. IsEventName v.name) (λ v x. x) f.event_names;
    events_differ = events_pairs (λ a b. a.name ≢ b.name) (λ a b x. x) f.events_differ;
    bounds_alike = events_pairs (λ a b. is_some a.bounds ≡ is_some b.bounds) (λ a b x. own_same what e a ∙ x ∙ sym (own_same what e b)) f.bounds_alike;
    event_clocks = events_all (λ v. v.clock < length q.clocks) (λ v x. x) (λ k d inside. (let within = f.event_clocks k d inside in omega (arith, within, long)));
    sends = all_widened grow (λ m. m.send < length q.events) p.messages (λ m x. x) (λ k d inside. (let within = f.sends k d inside in omega (arith, within, long_events)));
    receives = all_widened grow (λ m. m.receive < length q.events) p.messages (λ m x. x) (λ k d inside. (let within = f.receives k d inside in omega (arith, within, long_events)));
    two_ends = all_widened grow (λ m. m.send ≢ m.receive) p.messages (λ m x. x) f.two_ends;
    messages_differ = pairs_widened grow (λ a b. (a.send ≡ b.send) → (a.receive ≡ b.receive) → ⊥) p.messages (λ a b x. x) f.messages_differ;
  }

  -- ---- the nodes are the same
  abbrev Any : ℤ → ℤ → Type 0
  Any v w = ⊤

  events_on : (k : ℕ) (v : Event) → slice_get p.events k ≡ Some v → (w : Event) × (slice_get q.events k ≡ Some w) × EventGoes v w
  events_on k v at = (widened_event what e v, event_at what e p.events k v at, record { clock = refl; stamp = refl })

  events_back : (k : ℕ) (w : Event) → slice_get q.events k ≡ Some w → (v : Event) × (slice_get p.events k ≡ Some v) × EventGoes w v
  events_back k w at =
      let from = event_from what e p.events k w at in
      (from.0, from.1, record { clock = ap (λ (u : Event). u.clock) (sym from.2); stamp = ap (λ (u : Event). u.stamp) (sym from.2) })

  pub reading_on : (k s : ℕ) → IsReading p k s → IsReading q k s
  reading_on = reading_goes p q.clocks q.follows q.events q.messages Any events_on

  pub reading_back : (k s : ℕ) → IsReading q k s → IsReading p k s
  reading_back = reading_goes q p.clocks p.follows p.events p.messages Any events_back

  pub readings_on : (readings : List Reading) → AreReadings p readings → AreReadings q readings
  readings_on readings are = record { each = λ k s has. reading_on k s (are.each k s has); every = λ k s reading. are.every k s (reading_back k s reading); rising = are.rising }

  pub readings_back : (readings : List Reading) → AreReadings q readings → AreReadings p readings
  readings_back readings are = record { each = λ k s has. reading_back k s (are.each k s has); every = λ k s reading. are.every k s (reading_on k s reading); rising = are.rising }

  -- ---- the bounds of the short list that join two clocks are the same
  pub joining_same : (readings : List Reading) → joining_bounds q readings ≡ joining_bounds p readings
  joining_same readings =
      ap (λ (bs : List Bound). bs ++ flat_map message_bounds q.messages) (listed_same what e p.follows readings q.clocks p.clocks long)
      ∙ ap (λ (bs : List Bound). follow_bounds p.follows readings 0 p.clocks ++ bs) (bounds_same what p.events e p.messages)

  -- ---- a verdict over the short list of the problem is one over that of the widened problem
  pub widened_verdict : (x : Times) (readings : List Reading) (v : Verdict) → IsWellFormed p → AreReadings p readings
      → Judges q x (span_bounds readings ++ event_bounds 0 p.events ++ joining_bounds p readings) v → IsVerdict q x v
  widened_verdict x readings v f are judged =
      whole_verdict q x readings v (formed f) (readings_on readings are)
      (subst (λ (bs : List Bound). Judges q x (span_bounds readings ++ bs ++ joining_bounds q readings) v) (sym (stamps_same what e p.events))
      (subst (λ (bs : List Bound). Judges q x (span_bounds readings ++ event_bounds 0 p.events ++ bs) v) (sym (joining_same readings)) judged))

  -- ---- a step of the problem is one of the widened problem
  follows_on : (f : Follow) → Contains p.follows f → (g : Follow) × Contains q.follows g × FollowGoes Any f g
  follows_on f has = (widened_follow what e f, follow_in what e p.follows f has, record { earlier = refl; later = refl; gap = tt })

  -- by the gap that is left
  pub follow_on : (k s l t gap : ℕ) → Declares p (bounds.Follow k s l t) (gap_between k s l t gap) → Declares q (bounds.Follow k s l t) (gap_between k s l t (gap_left what e gap))
  follow_on k s l t gap (f, has, later, after, is_s, is_t, is) =
      let weights : neg_ℤ (pos (gap * 1000000000)) ≡ neg_ℤ (pos (f.gap * 1000000000)) = ap (λ (a : Constraint). a.weight) is in
      let same : gap ≡ f.gap = omega (arith, ints, weights) in
      (widened_follow what e f, follow_in what e p.follows f has, later, comes_on p q.clocks q.follows q.events q.messages Any follows_on k l after, reading_on k s is_s, reading_on l t is_t, ap (λ (n : ℕ). gap_between k s l t (gap_left what e n)) same)

  pub declared_on : (b : Bound) (c : Constraint) → Declares p b c → (d : Constraint) × Declares q b d
  declared_on b c d =
      let on = declared_by p q.clocks q.follows q.events q.messages Any
      (λ k c at. (widened_clock what e k c, widened_at what e p.clocks k c at, record { most = λ n. tt; least = λ n. tt }))
      events_on
      (λ k v c at on. record { late = tt; early = tt })
      follows_on
      (λ m has. (grow m, contained grow p.messages m has, record { send = refl; receive = refl; least = tt; most = λ o is. (o + added_to what p.events e m, ap (widened_most (added_to what p.events e m)) is, tt) }))
      b c d in
      (on.0, on.1)

  pub step_on : (s : Step) → IsStepOf p s → IsStepOf q s
  step_on s (c, d) = declared_on s.bound c d

  pub steps_on : (steps : List Step) → All (IsStepOf p) steps → All (IsStepOf q) steps
  steps_on steps all k d inside = step_on (get_or steps k d) (all k d inside)
