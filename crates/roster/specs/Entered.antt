-- Some events of a problem, and what is bound among them.
use Rattle.std.specs.Prelude.{◌≡◌, ℕ, ◌<◌, ◌≤◌, Bool, true, ◌||◌, ◌⊎◌, ◌==◌, nat_lt, Some, Contains}
use Rattle.problem_model.specs.declared.items.Event.{Event}
use Rattle.problem_model.specs.declared.items.Message.{Message}
use Rattle.problem_model.specs.declared.items.Node.{Node}
use Rattle.problem_model.specs.declared.items.Node.TheVariants as nodes
use Rattle.problem_model.specs.declared.items.Bound.{Bound}
use Rattle.problem_model.specs.declared.items.Bound.TheVariants as bounds
use Rattle.problem_model.specs.declared.items.Bound.TheVariants.{SpanMost, SpanLeast, Late, Early, DelayMost, DelayLeast}
use Rattle.problem_model.specs.Problem.{ProblemLists}
use Rattle.problem_model.specs.Bounds.{EventAt, ComesAfter}

-- this event has entered
abbrev pub HasEntered : ProblemLists → (ℕ → Bool) → ℕ → Event → Type 0
HasEntered p entered v e = EventAt p v e × (entered v ≡ true)

-- all events
abbrev pub all_events : ℕ → Bool
all_events v = true

-- the events below a number
abbrev pub events_below : ℕ → ℕ → Bool
events_below n v = nat_lt v n

-- some events, with one more
abbrev pub and_event : (ℕ → Bool) → ℕ → ℕ → Bool
and_event entered v w = (w == v) || entered w

-- an event that has entered reads this stamp on this clock
abbrev pub IsReadingOf : ProblemLists → (ℕ → Bool) → ℕ → ℕ → Type 0
IsReadingOf p entered clock stamp = (v : ℕ) × (e : Event) × HasEntered p entered v e × (e.clock ≡ clock) × (e.stamp ≡ stamp)

-- the node is an event that has entered, or a reading of one
abbrev pub IsEnteredNode : ProblemLists → (ℕ → Bool) → Node → Type 0
IsEnteredNode p entered (nodes.Event v) = (e : Event) × HasEntered p entered v e
IsEnteredNode p entered (nodes.Reading clock stamp) = IsReadingOf p entered clock stamp

-- two readings of a clock, the first below the second, and none between them
pub record AreNeighbours (p : ProblemLists) (entered : ℕ → Bool) (clock s t : ℕ) : Type 0 where
  pub first : IsReadingOf p entered clock s
  pub second : IsReadingOf p entered clock t
  pub rising : s < t
  pub none : (u : ℕ) → IsReadingOf p entered clock u → s < u → u < t → ⊥

-- s is the last reading of clock c and t the first of clock d, where c is the nearest clock before d with a reading; only events that have
-- entered count
pub record AreLinked (p : ProblemLists) (entered : ℕ → Bool) (c s d t : ℕ) : Type 0 where
  pub comes : ComesAfter p c d
  pub nearest : (b u : ℕ) → ComesAfter p b d → IsReadingOf p entered b u → (b ≡ c) ⊎ ComesAfter p b c
  pub last : IsReadingOf p entered c s
  pub none_after : (u : ℕ) → IsReadingOf p entered c u → u ≤ s
  pub first : IsReadingOf p entered d t
  pub none_before : (u : ℕ) → IsReadingOf p entered d u → t ≤ u

-- a message of the problem from one event to another, both of which have entered
pub record IsMessageOf (p : ProblemLists) (entered : ℕ → Bool) (send receive : ℕ) (m : Message) : Type 0 where
  pub among : Contains p.messages m
  pub send_is : m.send ≡ send
  pub receive_is : m.receive ≡ receive
  pub send_in : entered send ≡ true
  pub receive_in : entered receive ≡ true

-- the bound is of the short list among the events that have entered: the span of neighbours, a stamp, a follow, a delay
abbrev pub IsDue : ProblemLists → (ℕ → Bool) → Bound → Type 0
IsDue p entered (SpanMost clock s t) = AreNeighbours p entered clock s t
IsDue p entered (SpanLeast clock s t) = AreNeighbours p entered clock s t
IsDue p entered (Late v) = (e : Event) × HasEntered p entered v e
IsDue p entered (Early v) = (e : Event) × HasEntered p entered v e
IsDue p entered (bounds.Follow c s d t) = AreLinked p entered c s d t
IsDue p entered (DelayMost send receive) = (m : Message) × (most : ℕ) × IsMessageOf p entered send receive m × (m.most ≡ Some most)
IsDue p entered (DelayLeast send receive) = (m : Message) × IsMessageOf p entered send receive m
