-- A problem in which numbers of one kind are widened.
use Rattle.std.specs.Prelude.{ℕ, ◌+◌, ◌-◌, ◌^◌, min, Bool, true, false, ◌&&◌, ◌==◌, if◌then◌else◌, List, [], ◌∷◌, map, slice_get, Option, Some, None}
use Rattle.atto.specs.Span.{RateParts}
use Rattle.problem_model.specs.declared.items.Clock.{Clock}
use Rattle.problem_model.specs.declared.items.Follow.{Follow}
use Rattle.problem_model.specs.declared.items.Event.{Event}
use Rattle.problem_model.specs.declared.items.StampBounds.{StampBounds}
use Rattle.problem_model.specs.declared.items.Message.{Message}
use Rattle.problem_model.specs.Problem.{ProblemLists}
use Rattle.cert_check.specs.declared.what.Clocks.{Clocks}
use Rattle.cert_check.specs.declared.what.Clocks.TheVariants as clocks
use Rattle.cert_check.specs.declared.what.Links.{Links}
use Rattle.cert_check.specs.declared.what.Links.TheVariants as links
use Rattle.cert_check.specs.declared.what.Links.TheVariants.{Between}
use Rattle.cert_check.specs.declared.what.What.{What}
use Rattle.cert_check.specs.declared.what.What.TheVariants.{Delays, Least, Stamps, Rates, Gaps}

-- ---- messages
-- the event has its stamp from this clock
abbrev pub is_on : List Event → ℕ → ℕ → Bool
is_on events event clock = elim (slice_get events event) [ None ↦ false | Some v ↦ v.clock == clock ]

-- the message is one of these
abbrev pub joins : Links → List Event → Message → Bool
joins links.All events m = true
joins (Between from to) events m = is_on events m.send from && is_on events m.receive to

-- by how much its greatest delay is greater
abbrev pub added_to : What → List Event → ℕ → Message → ℕ
added_to (Delays which) events e m = if joins which events m then e else 0
added_to (Least which) events e m = 0
added_to (Stamps which) events e m = 0
added_to (Rates which) events e m = 0
added_to Gaps events e m = 0

-- what is left of its least delay
abbrev pub least_left : What → List Event → ℕ → Message → ℕ
least_left (Delays which) events e m = m.least
least_left (Least which) events e m = if joins which events m then m.least - e else m.least
least_left (Stamps which) events e m = m.least
least_left (Rates which) events e m = m.least
least_left Gaps events e m = m.least

-- a greatest delay that is e ns greater, where there is one
abbrev pub widened_most : ℕ → Option ℕ → Option ℕ
widened_most e None = None
widened_most e (Some most) = Some (most + e)

-- the message with this least delay, and its greatest delay so much greater
abbrev pub with_delays : ℕ → ℕ → Message → Message
with_delays least added m = record { send = m.send; receive = m.receive; least = least; most = widened_most added m.most }

-- ---- clocks
-- the clock at this place is one of these
abbrev pub has_clock : Clocks → ℕ → Bool
has_clock clocks.All k = true
has_clock (clocks.One one) k = k == one

-- a rate that may be off by e parts per billion more, as far as rates may
abbrev pub wider_rate : ℕ → RateParts → RateParts
wider_rate e r = record { short = min (r.short + e) 999999999; long = min (r.long + e) 1000000000 }

-- the clock with such a rate
abbrev pub with_wider_rate : ℕ → Clock → Clock
with_wider_rate e c = record { name = c.name; rate = wider_rate e c.rate; early = c.early; late = c.late }

-- the clock whose events may come e ns earlier and later, below 2^62 ns
abbrev pub with_wider_stamps : ℕ → Clock → Clock
with_wider_stamps e c = record { name = c.name; rate = c.rate; early = min (c.early + e) (2 ^ 62 - 1); late = min (c.late + e) (2 ^ 62 - 1) }

-- the clock at a place, widened by e
abbrev pub widened_clock : What → ℕ → ℕ → Clock → Clock
widened_clock (Delays which) e k c = c
widened_clock (Least which) e k c = c
widened_clock (Stamps which) e k c = if has_clock which k then with_wider_stamps e c else c
widened_clock (Rates which) e k c = if has_clock which k then with_wider_rate e c else c
widened_clock Gaps e k c = c

-- clocks from place k on, each as this says of its place
abbrev pub clocks_by : (ℕ → Clock → Clock) → ℕ → List Clock → List Clock
clocks_by f k [] = []
clocks_by f k (c ∷ cs) = f k c ∷ clocks_by f (k + 1) cs

-- all clocks widened by e; where messages or gaps are widened they stay
abbrev pub widened_clocks : What → ℕ → List Clock → List Clock
widened_clocks (Delays which) e cs = cs
widened_clocks (Least which) e cs = cs
widened_clocks (Stamps which) e cs = clocks_by (widened_clock (Stamps which) e) 0 cs
widened_clocks (Rates which) e cs = clocks_by (widened_clock (Rates which) e) 0 cs
widened_clocks Gaps e cs = cs

-- ---- events
-- an event's own bounds, e ns greater, below 2^62 ns
abbrev pub wider_bounds : ℕ → Option StampBounds → Option StampBounds
wider_bounds e None = None
wider_bounds e (Some own) = Some (record { early = min (own.early + e) (2 ^ 62 - 1); late = min (own.late + e) (2 ^ 62 - 1) })

-- the own bounds of an event, widened by e
abbrev pub widened_own : What → ℕ → Event → Option StampBounds
widened_own (Delays which) e v = v.bounds
widened_own (Least which) e v = v.bounds
widened_own (Stamps which) e v = if has_clock which v.clock then wider_bounds e v.bounds else v.bounds
widened_own (Rates which) e v = v.bounds
widened_own Gaps e v = v.bounds

-- the event with these bounds
abbrev pub widened_event : What → ℕ → Event → Event
widened_event what e v = record { name = v.name; clock = v.clock; stamp = v.stamp; bounds = widened_own what e v }

-- all events widened by e; where other numbers are widened than those of stamps they stay
abbrev pub widened_events : What → ℕ → List Event → List Event
widened_events (Delays which) e vs = vs
widened_events (Least which) e vs = vs
widened_events (Stamps which) e vs = map (widened_event (Stamps which) e) vs
widened_events (Rates which) e vs = vs
widened_events Gaps e vs = vs

-- ---- follows
-- what is left of a gap
abbrev pub gap_left : What → ℕ → ℕ → ℕ
gap_left (Delays which) e gap = gap
gap_left (Least which) e gap = gap
gap_left (Stamps which) e gap = gap
gap_left (Rates which) e gap = gap
gap_left Gaps e gap = gap - e

-- a follow whose gap is e ns less, and not below 0
abbrev pub with_less_gap : ℕ → Follow → Follow
with_less_gap e f = record { earlier = f.earlier; later = f.later; gap = f.gap - e }

-- all follows widened by e; where other numbers are widened they stay
abbrev pub widened_follows : What → ℕ → List Follow → List Follow
widened_follows (Delays which) e fs = fs
widened_follows (Least which) e fs = fs
widened_follows (Stamps which) e fs = fs
widened_follows (Rates which) e fs = fs
widened_follows Gaps e fs = map (with_less_gap e) fs

-- ---- problems
-- the message, widened by e
abbrev pub widened_message : What → List Event → ℕ → Message → Message
widened_message what events e m = with_delays (least_left what events e m) (added_to what events e m) m

-- the problem in which what is named is widened by e: ns, or parts per billion of a rate; all else is the same
abbrev pub widened : What → ProblemLists → ℕ → ProblemLists
widened what p e = record { clocks = widened_clocks what e p.clocks; follows = widened_follows what e p.follows; events = widened_events what e p.events; messages = map (widened_message what p.events e) p.messages }
