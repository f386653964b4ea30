-- The bounds of a problem and those of the widened one, compared.
use Rattle.std.proofs.Common.{◌≡◌, ◌<◌, ◌≤◌, ◌+◌, ◌-◌, ◌*◌, ◌^◌, ℕ, suc, Bool, true, false, List, [], ◌∷◌, map, slice_get, Option, Some, None, refl, sym, ◌∙◌, ap, subst, arith}
use Rattle.std.specs.Prelude.{All, IfSome, ℤ, pos, neg_ℤ, ◌≤ℤ◌, if◌then◌else◌, min, ⊤}
use Rattle.std.proofs.lemmas.Int.{ints}
use Rattle.atto.specs.Span.{most_of, least_of}
use Rattle.problem_model.specs.declared.items.Clock.{Clock}
use Rattle.problem_model.specs.declared.items.Event.{Event}
use Rattle.problem_model.specs.declared.items.StampBounds.{StampBounds}
use Rattle.problem_model.specs.declared.items.Follow.{Follow}
use Rattle.problem_model.specs.declared.items.Message.{Message}
use Rattle.problem_model.specs.declared.items.Node.TheVariants as nodes
use Rattle.problem_model.specs.declared.items.Bound.{Bound}
use Rattle.problem_model.specs.declared.items.Bound.TheVariants as bounds
use Rattle.problem_model.specs.declared.items.Bound.TheVariants.{SpanMost, SpanLeast, Late, Early, DelayMost, DelayLeast}
use Rattle.problem_model.specs.Problem.{ProblemLists, ClockFits, EventFits, FitsLimits}
use Rattle.problem_model.specs.Bounds.{Constraint, Declares}
use Rattle.cert_check.specs.declared.what.What.{What}
use Rattle.cert_check.specs.declared.what.Clocks.{Clocks}
use Rattle.cert_check.specs.declared.what.What.TheVariants.{Delays, Least, Stamps, Rates, Gaps}
use Rattle.cert_check.specs.Widened.{joins, has_clock, added_to, least_left, gap_left, with_less_gap, widened_follows, widened_most, with_delays, with_wider_rate, with_wider_stamps, widened_clock, clocks_by, widened_clocks, wider_bounds, widened_own, widened_event, widened_events, widened_message, widened}
use Rattle.cert_check.proofs.GapsLeft.{widened_follow}
use Rattle.cert_check.proofs.Messages.{some_same}
use Rattle.cert_check.proofs.Widening.{most_same, contained, widened_from, follow_in, follow_from, widened_at, clock_from, event_at, event_from, ClockGoes, StampGoes, FollowGoes, declared_by}

-- ---- widened by nothing
min_same : (n most : ℕ) → n ≤ most → min (n + 0) most ≡ n
min_same n most fits = grind (arith, fits)

stamps_same : (c : Clock) → ClockFits c → with_wider_stamps 0 c ≡ c
stamps_same c (short, long, early, late) =
    ap (λ (n : ℕ). record { name = c.name; rate = c.rate; early = n; late = min (c.late + 0) (2 ^ 62 - 1) }) (min_same c.early (2 ^ 62 - 1) (omega (arith, early)))
    ∙ ap (λ (n : ℕ). record { name = c.name; rate = c.rate; early = c.early; late = n }) (min_same c.late (2 ^ 62 - 1) (omega (arith, late)))

rate_same : (c : Clock) → ClockFits c → with_wider_rate 0 c ≡ c
rate_same c (short, long, early, late) =
    ap (λ (n : ℕ). record { name = c.name; rate = record { short = n; long = min (c.rate.long + 0) 1000000000 }; early = c.early; late = c.late }) (min_same c.rate.short 999999999 short)
    ∙ ap (λ (n : ℕ). record { name = c.name; rate = record { short = c.rate.short; long = n }; early = c.early; late = c.late }) (min_same c.rate.long 1000000000 long)

either_same : (b : Bool) (c d : Clock) → d ≡ c → (if b then d else c) ≡ c
either_same true c d same = same
either_same false c d same = refl

clock_same : (what : What) (k : ℕ) (c : Clock) → ClockFits c → widened_clock what 0 k c ≡ c
clock_same (Delays which) k c fits = refl
clock_same (Least which) k c fits = refl
clock_same (Stamps which) k c fits = either_same (has_clock which k) c (with_wider_stamps 0 c) (stamps_same c fits)
clock_same (Rates which) k c fits = either_same (has_clock which k) c (with_wider_rate 0 c) (rate_same c fits)
clock_same Gaps k c fits = refl

each_same : (f : ℕ → Clock → Clock) → ((k : ℕ) (c : Clock) → ClockFits c → f k c ≡ c) → (j : ℕ) (cs : List Clock) → All ClockFits cs → clocks_by f j cs ≡ cs
each_same f same j [] fit = refl
each_same f same j (c ∷ cs) fit =
    ap (λ (d : Clock). d ∷ clocks_by f (j + 1) cs) (same j c (fit 0 c (omega arith)))
    ∙ ap (λ (ds : List Clock). c ∷ ds) (each_same f same (j + 1) cs (λ k d inside. fit (suc k) d (omega (arith, inside))))

clocks_same : (what : What) (cs : List Clock) → All ClockFits cs → widened_clocks what 0 cs ≡ cs
clocks_same (Delays which) cs fit = refl
clocks_same (Least which) cs fit = refl
clocks_same (Stamps which) cs fit = each_same (widened_clock (Stamps which) 0) (clock_same (Stamps which)) 0 cs fit
clocks_same (Rates which) cs fit = each_same (widened_clock (Rates which) 0) (clock_same (Rates which)) 0 cs fit
clocks_same Gaps cs fit = refl

own_unwidened : (own : Option StampBounds) (v : Event) → v.bounds ≡ own → EventFits v → wider_bounds 0 own ≡ own
own_unwidened None v is fits = refl
own_unwidened (Some o) v is (stamp, own_fits) =
    let (early, late) = subst (λ (b : Option StampBounds). IfSome b (λ x. (x.early < 2 ^ 62) × (x.late < 2 ^ 62))) is own_fits in
    ap (λ (n : ℕ). Some (record { early = n; late = min (o.late + 0) (2 ^ 62 - 1) })) (min_same o.early (2 ^ 62 - 1) (omega (arith, early)))
    ∙ ap (λ (n : ℕ). Some (record { early = o.early; late = n })) (min_same o.late (2 ^ 62 - 1) (omega (arith, late)))

own_either : (b : Bool) (own own' : Option StampBounds) → own' ≡ own → (if b then own' else own) ≡ own
own_either true own own' same = same
own_either false own own' same = refl

event_unwidened : (which : Clocks) (v : Event) → EventFits v → widened_event (Stamps which) 0 v ≡ v
event_unwidened which v fits = ap (λ (own : Option StampBounds). record { name = v.name; clock = v.clock; stamp = v.stamp; bounds = own }) (own_either (has_clock which v.clock) v.bounds (wider_bounds 0 v.bounds) (own_unwidened v.bounds v refl fits))

each_event : (which : Clocks) (vs : List Event) → All EventFits vs → map (widened_event (Stamps which) 0) vs ≡ vs
each_event which [] fit = refl
each_event which (v ∷ vs) fit =
    ap (λ (w : Event). w ∷ map (widened_event (Stamps which) 0) vs) (event_unwidened which v (fit 0 v (omega arith)))
    ∙ ap (λ (ws : List Event). v ∷ ws) (each_event which vs (λ k d inside. fit (suc k) d (omega (arith, inside))))

events_same : (what : What) (vs : List Event) → All EventFits vs → widened_events what 0 vs ≡ vs
events_same (Delays which) vs fit = refl
events_same (Least which) vs fit = refl
events_same (Stamps which) vs fit = each_event which vs fit
events_same (Rates which) vs fit = refl
events_same Gaps vs fit = refl

gap_same : (f : Follow) → with_less_gap 0 f ≡ f
gap_same f = ap (λ (n : ℕ). record { earlier = f.earlier; later = f.later; gap = n }) (let same : f.gap - 0 ≡ f.gap = omega arith in same)

gaps_same : (fs : List Follow) → map (with_less_gap 0) fs ≡ fs
gaps_same [] = refl
gaps_same (f ∷ fs) = rw (gap_same f, gaps_same fs) refl

follows_same : (what : What) (fs : List Follow) → widened_follows what 0 fs ≡ fs
follows_same (Delays which) fs = refl
follows_same (Least which) fs = refl
follows_same (Stamps which) fs = refl
follows_same (Rates which) fs = refl
follows_same Gaps fs = gaps_same fs

none_added : (b : Bool) (n m : ℕ) → n ≡ 0 → m ≡ 0 → (if b then n else m) ≡ 0
none_added true n m is is' = is
none_added false n m is is' = is'

added_same : (what : What) (events : List Event) (m : Message) → added_to what events 0 m ≡ 0
added_same (Delays which) events m = none_added (joins which events m) 0 0 refl refl
added_same (Least which) events m = refl
added_same (Stamps which) events m = refl
added_same (Rates which) events m = refl
added_same Gaps events m = refl

none_less : (b : Bool) (n : ℕ) → (if b then n - 0 else n) ≡ n
none_less true n = omega arith
none_less false n = refl

least_same : (what : What) (events : List Event) (m : Message) → least_left what events 0 m ≡ m.least
least_same (Delays which) events m = refl
least_same (Least which) events m = none_less (joins which events m) m.least
least_same (Stamps which) events m = refl
least_same (Rates which) events m = refl
least_same Gaps events m = refl

message_unwidened : (what : What) (events : List Event) (m : Message) → widened_message what events 0 m ≡ m
message_unwidened what events m =
    ap (λ (n : ℕ). with_delays n (added_to what events 0 m) m) (least_same what events m)
    ∙ ap (λ (n : ℕ). with_delays m.least n m) (added_same what events m)
    ∙ ap (λ (o : Option ℕ). record { send = m.send; receive = m.receive; least = m.least; most = o }) (most_same m.most)

messages_unwidened : (what : What) (events : List Event) (ms : List Message) → map (widened_message what events 0) ms ≡ ms
messages_unwidened what events [] = refl
messages_unwidened what events (m ∷ ms) = rw (message_unwidened what events m, messages_unwidened what events ms) refl

pub unwidened : (what : What) (p : ProblemLists) → FitsLimits p → widened what p 0 ≡ p
unwidened what p fits =
    ap (λ (cs : List Clock). record { clocks = cs; follows = widened_follows what 0 p.follows; events = widened_events what 0 p.events; messages = map (widened_message what p.events 0) p.messages }) (clocks_same what p.clocks fits.clocks_fit)
    ∙ ap (λ (fs : List Follow). record { clocks = p.clocks; follows = fs; events = widened_events what 0 p.events; messages = map (widened_message what p.events 0) p.messages }) (follows_same what p.follows)
    ∙ ap (λ (vs : List Event). record { clocks = p.clocks; follows = p.follows; events = vs; messages = map (widened_message what p.events 0) p.messages }) (events_same what p.events fits.events_fit)
    ∙ ap (λ (ms : List Message). record { clocks = p.clocks; follows = p.follows; events = p.events; messages = ms }) (messages_unwidened what p.events p.messages)

-- ---- a bound of the widened problem is one of the problem
most_from : (e most : ℕ) (o : Option ℕ) → widened_most e o ≡ Some most → (n : ℕ) × (o ≡ Some n) × (most ≡ n + e)
most_from e most None is = absurd cc
most_from e most (Some n) is = (n, refl, cc)

abbrev Any : ℤ → ℤ → Type 0
Any v w = ⊤

pub declared_back : (what : What) (p : ProblemLists) (e : ℕ) (b : Bound) (c : Constraint) → Declares (widened what p e) b c → (d : Constraint) × Declares p b d
declared_back what p e b c declares =
    let back = declared_by (widened what p e) p.clocks p.follows p.events p.messages Any
    (λ k d at. (let from = clock_from what e p.clocks k d at in (from.0, from.1, record { most = λ n. tt; least = λ n. tt })))
    (λ k w at. (let from = event_from what e p.events k w at in (from.0, from.1, record { clock = ap (λ (u : Event). u.clock) (sym from.2); stamp = ap (λ (u : Event). u.stamp) (sym from.2) })))
    (λ k v c at on. record { late = tt; early = tt })
    (λ f has. (
    let from = follow_from what e p.follows f has in
    (from.0, from.1, record { earlier = ap (λ (v : Follow). v.earlier) (sym from.2); later = ap (λ (v : Follow). v.later) (sym from.2); gap = tt })))
    (λ m has. (
    let from = widened_from (widened_message what p.events e) p.messages m has in (
      from.0,
      from.1,
      record {
        send = ap (λ (v : Message). v.send) (sym from.2);
        receive = ap (λ (v : Message). v.receive) (sym from.2);
        least = tt;
        most = λ o is. (let plain = most_from (added_to what p.events e from.0) o from.0.most (ap (λ (v : Message). v.most) (sym from.2) ∙ is) in (plain.0, plain.1, tt));
      },
    )))
    b c declares in
    (back.0, back.1)

-- ---- bounds of one name, of problems whose events have the same stamps, have the same ends
abbrev pub HaveSameStamps : ProblemLists → ProblemLists → Type 0
HaveSameStamps p q = (k : ℕ) (v w : Event) → slice_get p.events k ≡ Some v → slice_get q.events k ≡ Some w → (v.clock ≡ w.clock) × (v.stamp ≡ w.stamp)

-- problems with the same events have
pub one_events : (p q : ProblemLists) → p.events ≡ q.events → HaveSameStamps p q
one_events p q same k v w at at' =
    let one : v ≡ w = some_same v w (sym at ∙ ap (λ (es : List Event). slice_get es k) same ∙ at') in
    (ap (λ (u : Event). u.clock) one, ap (λ (u : Event). u.stamp) one)

-- so have a problem and itself, widened
pub own_stamps : (what : What) (p : ProblemLists) (e : ℕ) → HaveSameStamps p (widened what p e)
own_stamps what p e k v w at at' =
    let from = event_from what e p.events k w at' in
    let one : v ≡ from.0 = some_same v from.0 (sym at ∙ from.1) in
    (ap (λ (u : Event). u.clock) one ∙ ap (λ (u : Event). u.clock) (sym from.2), ap (λ (u : Event). u.stamp) one ∙ ap (λ (u : Event). u.stamp) (sym from.2))

-- so have it, widened in one way and in another
pub widened_stamps : (what other : What) (p : ProblemLists) (e f : ℕ) → HaveSameStamps (widened what p e) (widened other p f)
widened_stamps what other p e f k v w at at' =
    let from = event_from what e p.events k v at in
    let from' = event_from other f p.events k w at' in
    let one : from.0 ≡ from'.0 = some_same from.0 from'.0 (sym from.1 ∙ from'.1) in (
      ap (λ (u : Event). u.clock) from.2 ∙ ap (λ (u : Event). u.clock) one ∙ ap (λ (u : Event). u.clock) (sym from'.2),
      ap (λ (u : Event). u.stamp) from.2 ∙ ap (λ (u : Event). u.stamp) one ∙ ap (λ (u : Event). u.stamp) (sym from'.2),
    )

one_reading : (v w : Event) → (v.clock ≡ w.clock) × (v.stamp ≡ w.stamp) → nodes.Reading v.clock v.stamp ≡ nodes.Reading w.clock w.stamp
one_reading v w same = ap (λ (n : ℕ). nodes.Reading n v.stamp) same.0 ∙ ap (λ (n : ℕ). nodes.Reading w.clock n) same.1

abbrev Ends : Constraint → Constraint → Type 0
Ends c d = (c.from ≡ d.from) × (c.to ≡ d.to)

joined : (c d c' d' : Constraint) → c ≡ c' → d ≡ d' → c'.from ≡ d'.from → c'.to ≡ d'.to → (c.from ≡ d.from) × (c.to ≡ d.to)
joined c d c' d' is is' from to = (
  ap (λ (v : Constraint). v.from) is ∙ from ∙ ap (λ (v : Constraint). v.from) (sym is'),
  ap (λ (v : Constraint). v.to) is ∙ to ∙ ap (λ (v : Constraint). v.to) (sym is'),
)

pub ends_same : (p q : ProblemLists) → HaveSameStamps p q → (b : Bound) (c d : Constraint) → Declares p b c → Declares q b d → (c.from ≡ d.from) × (c.to ≡ d.to)
ends_same p q events (SpanMost clock s t) c d x y = joined c d _ _ x.5 y.5 refl refl
ends_same p q events (SpanLeast clock s t) c d x y = joined c d _ _ x.5 y.5 refl refl
ends_same p q events (Late e) c d x y = joined c d _ _ x.4 y.4 (one_reading x.0 y.0 (events e x.0 y.0 x.2 y.2)) refl
ends_same p q events (Early e) c d x y = joined c d _ _ x.4 y.4 refl (one_reading x.0 y.0 (events e x.0 y.0 x.2 y.2))
ends_same p q events (bounds.Follow k s l t) c d x y = joined c d _ _ x.6 y.6 refl refl
ends_same p q events (DelayMost send receive) c d x y = joined c d _ _ x.6 y.6 refl refl
ends_same p q events (DelayLeast send receive) c d x y = joined c d _ _ x.4 y.4 refl refl

-- ---- a bound weighs no more where the problem is widened by less
abbrev IsMore : ℤ → ℤ → Type 0
IsMore v w = w ≤ℤ v

min_rises : (n e f most : ℕ) → e ≤ f → min (n + e) most ≤ min (n + f) most
min_rises n e f most le = grind (arith, le)

times_rises : (n a b : ℕ) → a ≤ b → n * a ≤ n * b
times_rises n a b le = grind (arith, le)

as_more : (n m : ℕ) → n ≤ m → pos n ≤ℤ pos m
as_more n m le = omega (arith, ints, le)

as_less : (n m : ℕ) → n ≤ m → neg_ℤ (pos m) ≤ℤ neg_ℤ (pos n)
as_less n m le = omega (arith, ints, le)

-- the numbers of the first clock are no greater
record IsNarrower (c d : Clock) : Type 0 where
  short : c.rate.short ≤ d.rate.short
  long : c.rate.long ≤ d.rate.long
  early : c.early ≤ d.early
  late : c.late ≤ d.late

same_clock : (c : Clock) → IsNarrower c c
same_clock c = record { short = omega arith; long = omega arith; early = omega arith; late = omega arith }

either_narrower : (b : Bool) (c d d' : Clock) → IsNarrower d d' → IsNarrower (if b then d else c) (if b then d' else c)
either_narrower true c d d' narrower = narrower
either_narrower false c d d' narrower = same_clock c

clock_narrower : (what : What) (e f k : ℕ) (c : Clock) → e ≤ f → IsNarrower (widened_clock what e k c) (widened_clock what f k c)
clock_narrower (Delays which) e f k c le = same_clock c
clock_narrower (Least which) e f k c le = same_clock c
clock_narrower (Stamps which) e f k c le = either_narrower (has_clock which k) c (with_wider_stamps e c) (with_wider_stamps f c) (record {
  short = omega arith;
  long = omega arith;
  early = min_rises c.early e f (2 ^ 62 - 1) le;
  late = min_rises c.late e f (2 ^ 62 - 1) le;
})
clock_narrower (Rates which) e f k c le = either_narrower (has_clock which k) c (with_wider_rate e c) (with_wider_rate f c) (record {
  short = min_rises c.rate.short e f 999999999 le;
  long = min_rises c.rate.long e f 1000000000 le;
  early = omega arith;
  late = omega arith;
})
clock_narrower Gaps e f k c le = same_clock c

units_rise : (a b : ℕ) → a ≤ b → a * 1000000000 ≤ b * 1000000000
units_rise a b le = omega (arith, le)

clock_goes : (c d : Clock) → IsNarrower d c → ClockGoes IsMore c d
clock_goes c d narrower = record {
  most = λ n. as_more (most_of d.rate n) (most_of c.rate n) (times_rises n (1000000000 + d.rate.long) (1000000000 + c.rate.long) (let le = narrower.long in omega (arith, le)));
  least = λ n. as_less (least_of c.rate n) (least_of d.rate n) (times_rises n (1000000000 - c.rate.short) (1000000000 - d.rate.short) (let le = narrower.short in omega (arith, le)));
}

-- how far an event with these bounds of its own may lie from its reading
abbrev late_in : Clock → Option StampBounds → ℕ
late_in c own = elim own [ None ↦ c.late | Some o ↦ o.late ]

abbrev early_in : Clock → Option StampBounds → ℕ
early_in c own = elim own [ None ↦ c.early | Some o ↦ o.early ]

abbrev IsCloser : Clock → Option StampBounds → Clock → Option StampBounds → Type 0
IsCloser c own d own' = (late_in c own ≤ late_in d own') × (early_in c own ≤ early_in d own')

own_closer : (b : Bool) (own : Option StampBounds) (c d : Clock) (e f : ℕ) → e ≤ f → IsNarrower c d → IsCloser c (if b then wider_bounds e own else own) d (if b then wider_bounds f own else own)
own_closer true None c d e f le narrower = (narrower.late, narrower.early)
own_closer true (Some o) c d e f le narrower = (min_rises o.late e f (2 ^ 62 - 1) le, min_rises o.early e f (2 ^ 62 - 1) le)
own_closer false None c d e f le narrower = (narrower.late, narrower.early)
own_closer false (Some o) c d e f le narrower = (omega arith, omega arith)

stamp_closer : (what : What) (e f : ℕ) (v : Event) (c d : Clock) → e ≤ f → IsNarrower c d → IsCloser c (widened_own what e v) d (widened_own what f v)
stamp_closer (Delays which) e f v c d le narrower = own_closer false v.bounds c d e f le narrower
stamp_closer (Least which) e f v c d le narrower = own_closer false v.bounds c d e f le narrower
stamp_closer (Stamps which) e f v c d le narrower = own_closer (has_clock which v.clock) v.bounds c d e f le narrower
stamp_closer (Rates which) e f v c d le narrower = own_closer false v.bounds c d e f le narrower
stamp_closer Gaps e f v c d le narrower = own_closer false v.bounds c d e f le narrower

stamp_goes : (what : What) (e f k : ℕ) (v : Event) (c : Clock) → e ≤ f → StampGoes IsMore (widened_clock what f k c) (widened_clock what e k c) (widened_event what f v) (widened_event what e v)
stamp_goes what e f k v c le =
    let closer = stamp_closer what e f v (widened_clock what e k c) (widened_clock what f k c) le (clock_narrower what e f k c le) in
    record {
      late = as_more (late_in (widened_clock what e k c) (widened_own what e v) * 1000000000) (late_in (widened_clock what f k c) (widened_own what f v) * 1000000000) (units_rise _ _ closer.0);
      early = as_more (early_in (widened_clock what e k c) (widened_own what e v) * 1000000000) (early_in (widened_clock what f k c) (widened_own what f v) * 1000000000) (units_rise _ _ closer.1);
    }

added_either : (b : Bool) (e f : ℕ) → e ≤ f → (if b then e else 0) ≤ (if b then f else 0)
added_either true e f le = le
added_either false e f le = omega arith

added_rises : (what : What) (events : List Event) (e f : ℕ) (m : Message) → e ≤ f → added_to what events e m ≤ added_to what events f m
added_rises (Delays which) events e f m le = added_either (joins which events m) e f le
added_rises (Least which) events e f m le = omega arith
added_rises (Stamps which) events e f m le = omega arith
added_rises (Rates which) events e f m le = omega arith
added_rises Gaps events e f m le = omega arith

left_either : (b : Bool) (n e f : ℕ) → e ≤ f → (if b then n - f else n) ≤ (if b then n - e else n)
left_either true n e f le = omega (arith, le)
left_either false n e f le = omega arith

left_falls : (what : What) (events : List Event) (e f : ℕ) (m : Message) → e ≤ f → least_left what events f m ≤ least_left what events e m
left_falls (Delays which) events e f m le = omega arith
left_falls (Least which) events e f m le = left_either (joins which events m) m.least e f le
left_falls (Stamps which) events e f m le = omega arith
left_falls (Rates which) events e f m le = omega arith
left_falls Gaps events e f m le = omega arith

gap_falls : (what : What) (e f n : ℕ) → e ≤ f → gap_left what f n ≤ gap_left what e n
gap_falls (Delays which) e f n le = omega arith
gap_falls (Least which) e f n le = omega arith
gap_falls (Stamps which) e f n le = omega arith
gap_falls (Rates which) e f n le = omega arith
gap_falls Gaps e f n le = omega (arith, le)

follow_goes : (what : What) (e f : ℕ) (v : Follow) → e ≤ f → FollowGoes IsMore (widened_follow what f v) (widened_follow what e v)
follow_goes what e f v le = record {
  earlier = refl;
  later = refl;
  gap = as_less (gap_left what f v.gap * 1000000000) (gap_left what e v.gap * 1000000000) (units_rise (gap_left what f v.gap) (gap_left what e v.gap) (gap_falls what e f v.gap le));
}

pub declared_less : (what : What) (p : ProblemLists) (e f : ℕ) → e ≤ f → (b : Bound) (c : Constraint) → Declares (widened what p f) b c → (d : Constraint) × Declares (widened what p e) b d × (d.weight ≤ℤ c.weight)
declared_less what p e f le =
    declared_by (widened what p f) (widened_clocks what e p.clocks) (widened_follows what e p.follows) (widened_events what e p.events) (map (widened_message what p.events e) p.messages) IsMore
    (λ k d at. (
    let from = clock_from what f p.clocks k d at in (
      widened_clock what e k from.0,
      widened_at what e p.clocks k from.0 from.1,
      subst (λ (v : Clock). ClockGoes IsMore v (widened_clock what e k from.0)) (sym from.2) (clock_goes (widened_clock what f k from.0) (widened_clock what e k from.0) (clock_narrower what e f k from.0 le)),
    )))
    (λ k v at. (
    let from = event_from what f p.events k v at in (
      widened_event what e from.0,
      event_at what e p.events k from.0 from.1,
      record { clock = ap (λ (u : Event). u.clock) (sym from.2); stamp = ap (λ (u : Event). u.stamp) (sym from.2) },
    )))
    (λ k v c at on. (
    let clock = clock_from what f p.clocks v.clock c on in
    let event = event_from what f p.events k v at in
    subst (λ (d : Clock). StampGoes IsMore d (widened_clock what e v.clock clock.0) v (widened_event what e event.0)) (sym clock.2)
    (subst (λ (w : Event). StampGoes IsMore (widened_clock what f v.clock clock.0) (widened_clock what e v.clock clock.0) w (widened_event what e event.0)) (sym event.2) (stamp_goes what e f v.clock event.0 clock.0 le))))
    (λ v has. (
    let from = follow_from what f p.follows v has in (
      widened_follow what e from.0,
      follow_in what e p.follows from.0 from.1,
      subst (λ (w : Follow). FollowGoes IsMore w (widened_follow what e from.0)) (sym from.2) (follow_goes what e f from.0 le),
    )))
    (λ m has. (
    let from = widened_from (widened_message what p.events f) p.messages m has in
    let least : m.least ≡ least_left what p.events f from.0 = ap (λ (v : Message). v.least) from.2 in (
      widened_message what p.events e from.0,
      contained (widened_message what p.events e) p.messages from.0 from.1,
      record {
        send = ap (λ (v : Message). v.send) (sym from.2);
        receive = ap (λ (v : Message). v.receive) (sym from.2);
        least = as_less (m.least * 1000000000) (least_left what p.events e from.0 * 1000000000) (units_rise m.least (least_left what p.events e from.0) (let falls = left_falls what p.events e f from.0 le in omega (arith, least, falls)));
        most = λ o is. (
            let plain = most_from (added_to what p.events f from.0) o from.0.most (ap (λ (v : Message). v.most) (sym from.2) ∙ is) in
            let high : o ≡ plain.0 + added_to what p.events f from.0 = plain.2 in (
              plain.0 + added_to what p.events e from.0,
              ap (widened_most (added_to what p.events e from.0)) plain.1,
              as_more ((plain.0 + added_to what p.events e from.0) * 1000000000) (o * 1000000000)
                  (units_rise (plain.0 + added_to what p.events e from.0) o (let rises = added_rises what p.events e f from.0 le in omega (arith, high, rises))),
            ));
      },
    )))
