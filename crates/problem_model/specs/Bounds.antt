-- The bounds that a problem declares, over every two readings of a clock and of clocks that come after each other.
use Rattle.std.specs.Prelude.{◌≡◌, ℕ, List, [], ◌∷◌, ◌-◌, ◌*◌, ◌<◌, slice_get, Some, None, ℤ, pos, neg_ℤ, ◌-ℤ◌, ◌≤ℤ◌, Option, Contains}
use Rattle.atto.specs.Span.{least_of, most_of}
use Rattle.problem_model.specs.declared.items.Clock.{Clock}
use Rattle.problem_model.specs.declared.items.StampBounds.{StampBounds}
use Rattle.problem_model.specs.declared.items.Follow.{Follow}
use Rattle.problem_model.specs.declared.items.Event.{Event}
use Rattle.problem_model.specs.declared.items.Message.{Message}
use Rattle.problem_model.specs.declared.items.Node.{Node}
use Rattle.problem_model.specs.declared.items.Node.TheVariants as nodes
use Rattle.problem_model.specs.declared.items.Bound.{Bound}
use Rattle.problem_model.specs.declared.items.Bound.TheVariants as bounds
use Rattle.problem_model.specs.declared.items.Bound.TheVariants.{SpanMost, SpanLeast, Late, Early, DelayMost, DelayLeast}
use Rattle.problem_model.specs.Problem.{ProblemLists}

-- a difference constraint: x_to - x_from ≤ weight, in units
pub record Constraint : Type 0 where
  pub from : Node
  pub to : Node
  pub weight : ℤ

-- some event reads this stamp on this clock
abbrev pub IsReading : ProblemLists → ℕ → ℕ → Type 0
IsReading p clock stamp = (e : Event) × Contains p.events e × (e.clock ≡ clock) × (e.stamp ≡ stamp)

-- the clock at place k
abbrev pub ClockAt : ProblemLists → ℕ → Clock → Type 0
ClockAt p k c = slice_get p.clocks k ≡ Some c

-- the event at place k
abbrev pub EventAt : ProblemLists → ℕ → Event → Type 0
EventAt p k e = slice_get p.events k ≡ Some e

-- follow lines of the problem lead from clock c to clock d, each line's LATER being the next one's EARLIER
abbrev pub LinesLead : ProblemLists → ℕ → List Follow → ℕ → Type 0
LinesLead p c [] d = c ≡ d
LinesLead p c (f ∷ lines) d = Contains p.follows f × (f.earlier ≡ c) × LinesLead p f.later lines d

-- clock d comes after clock c: one or more lines lead there
abbrev pub ComesAfter : ProblemLists → ℕ → ℕ → Type 0
ComesAfter p c d = (f : Follow) × (lines : List Follow) × LinesLead p c (f ∷ lines) d

-- how far before the reading on its stamp an event on the clock may lie, in ns: by its own bounds, or else by those of
-- the clock
abbrev pub early_by : Clock → Option StampBounds → ℕ
early_by c bounds = elim bounds [ None ↦ c.early | Some own ↦ own.early ]

-- how far behind it
abbrev pub late_by : Clock → Option StampBounds → ℕ
late_by c bounds = elim bounds [ None ↦ c.late | Some own ↦ own.late ]

-- of an event, both
abbrev pub early_of : Clock → Event → ℕ
early_of c e = early_by c e.bounds

abbrev pub late_of : Clock → Event → ℕ
late_of c e = late_by c e.bounds

-- the problem declares the constraint a under the name b: spans for every two readings of a clock; a follow for every
-- reading of a clock and every one of a clock that comes after it, with the gap of the line that leads to the later one
abbrev pub Declares : ProblemLists → Bound → Constraint → Type 0
Declares p (SpanMost clock s t) a = (c : Clock) × ClockAt p clock c × IsReading p clock s × IsReading p clock t × (s < t)
    × (a ≡ record { from = nodes.Reading clock s; to = nodes.Reading clock t; weight = pos (most_of c.rate (t - s)) })
Declares p (SpanLeast clock s t) a = (c : Clock) × ClockAt p clock c × IsReading p clock s × IsReading p clock t × (s < t)
    × (a ≡ record { from = nodes.Reading clock t; to = nodes.Reading clock s; weight = neg_ℤ (pos (least_of c.rate (t - s))) })
Declares p (Late e) a = (v : Event) × (c : Clock) × EventAt p e v × ClockAt p v.clock c
    × (a ≡ record { from = nodes.Reading v.clock v.stamp; to = nodes.Event e; weight = pos (late_of c v * 1000000000) })
Declares p (Early e) a = (v : Event) × (c : Clock) × EventAt p e v × ClockAt p v.clock c
    × (a ≡ record { from = nodes.Event e; to = nodes.Reading v.clock v.stamp; weight = pos (early_of c v * 1000000000) })
Declares p (bounds.Follow c s d t) a = (f : Follow) × Contains p.follows f × (f.later ≡ d) × ComesAfter p c d × IsReading p c s × IsReading p d t
    × (a ≡ record { from = nodes.Reading d t; to = nodes.Reading c s; weight = neg_ℤ (pos (f.gap * 1000000000)) })
Declares p (DelayMost send receive) a = (m : Message) × (most : ℕ) × Contains p.messages m × (m.send ≡ send) × (m.receive ≡ receive) × (m.most ≡ Some most)
    × (a ≡ record { from = nodes.Event send; to = nodes.Event receive; weight = pos (most * 1000000000) })
Declares p (DelayLeast send receive) a = (m : Message) × Contains p.messages m × (m.send ≡ send) × (m.receive ≡ receive)
    × (a ≡ record { from = nodes.Event receive; to = nodes.Event send; weight = neg_ℤ (pos (m.least * 1000000000)) })

-- the real time of each node, in units
abbrev pub Times : Type 0
Times = Node → ℤ

-- the real times obey the constraint: that of `to` less that of `from` is at most the weight
abbrev pub Obeys : Times → Constraint → Type 0
Obeys x a = (x a.to -ℤ x a.from) ≤ℤ a.weight

-- every declared bound is obeyed
abbrev pub IsExecution : ProblemLists → Times → Type 0
IsExecution p x = (b : Bound) (a : Constraint) → Declares p b a → Obeys x a
