-- The short list of bounds: the spans of neighbouring readings, the stamps, the follows of neighbouring clocks, the messages.
use Rattle.std.specs.Prelude.{◌≡◌, ℕ, zero, suc, ◌+◌, List, [], ◌∷◌, ◌++◌, Option, Some, None, All, ℤ, ◌-ℤ◌, ◌<ℤ◌, if◌then◌else◌, ◌==◌, find}
use Rattle.std.specs.List.{flat_map}
use Rattle.std.specs.Option.{option_or}
use Rattle.problem_model.specs.declared.items.Clock.{Clock}
use Rattle.problem_model.specs.declared.items.Follow.{Follow}
use Rattle.problem_model.specs.declared.items.Event.{Event}
use Rattle.problem_model.specs.declared.items.Message.{Message}
use Rattle.problem_model.specs.declared.items.Bound.{Bound}
use Rattle.problem_model.specs.declared.items.Bound.TheVariants as bounds
use Rattle.problem_model.specs.declared.items.Bound.TheVariants.{SpanMost, SpanLeast, Late, Early, DelayMost, DelayLeast}
use Rattle.problem_model.specs.Problem.{ProblemLists}
use Rattle.problem_model.specs.Bounds.{Constraint, Declares, Obeys, Times}
use Rattle.problem_model.specs.Nodes.{Reading, AreReadings}

-- two neighbours on one clock have both spans, neighbours on two clocks have none
abbrev pub neighbour_bounds : Reading → Reading → List Bound
neighbour_bounds a b = if a.0 == b.0 then SpanMost a.0 a.1 b.1 ∷ SpanLeast a.0 a.1 b.1 ∷ [] else []

-- the spans of all neighbours, upward
abbrev pub span_bounds : List Reading → List Bound
span_bounds [] = []
span_bounds (a ∷ []) = []
span_bounds (a ∷ b ∷ readings) = neighbour_bounds a b ++ span_bounds (b ∷ readings)

-- the bounds on the stamps of events: late and early of each, by their numbers from k on
abbrev pub event_bounds : ℕ → List Event → List Bound
event_bounds k [] = []
event_bounds k (e ∷ events) = Late k ∷ Early k ∷ event_bounds (k + 1) events

-- the follow whose later clock is d
abbrev pub follow_to : List Follow → ℕ → Option Follow
follow_to follows d = find (λ f. f.later == d) follows

-- the clocks before clock d in its chain, the nearest first. Each stands before the one that follows it, so they are at most d; at most n are given
abbrev pub clocks_before : List Follow → ℕ → ℕ → List ℕ
clocks_before follows zero d = []
clocks_before follows (suc n) d = elim (follow_to follows d) [ None ↦ [] | Some f ↦ f.earlier ∷ clocks_before follows n f.earlier ]

-- the first and the last reading of a clock
abbrev pub first_reading : List Reading → ℕ → Option Reading
first_reading readings clock = find (λ r. r.0 == clock) readings

abbrev pub last_reading : List Reading → ℕ → Option Reading
last_reading [] clock = None
last_reading (r ∷ readings) clock = option_or (last_reading readings clock) (if r.0 == clock then Some r else None)

-- the last reading of the first of these clocks that has one
abbrev pub nearest_reading : List Reading → List ℕ → Option Reading
nearest_reading readings [] = None
nearest_reading readings (c ∷ clocks) = option_or (last_reading readings c) (nearest_reading readings clocks)

-- the follow of two readings, where there are both
abbrev pub follow_bound : Option Reading → Option Reading → List Bound
follow_bound None b = []
follow_bound (Some a) None = []
follow_bound (Some a) (Some b) = bounds.Follow a.0 a.1 b.0 b.1 ∷ []

-- for each clock, from place k on, the follow of the nearest reading before it in its chain and its first reading. A
-- follow past a clock with readings is declared too, and not listed
abbrev pub follow_bounds : List Follow → List Reading → ℕ → List Clock → List Bound
follow_bounds follows readings k [] = []
follow_bounds follows readings k (c ∷ clocks) =
    follow_bound (nearest_reading readings (clocks_before follows k k)) (first_reading readings k) ++ follow_bounds follows readings (k + 1) clocks

-- the greatest delay, where there is one
abbrev pub most_bound : Message → Option ℕ → List Bound
most_bound m None = []
most_bound m (Some most) = DelayMost m.send m.receive ∷ []

-- the bounds on the delay of a message
abbrev pub message_bounds : Message → List Bound
message_bounds m = most_bound m m.most ++ DelayLeast m.send m.receive ∷ []

-- the spans of neighbours, then late and early of each event, then the follows of neighbours, then the delays
abbrev pub short_list : ProblemLists → List Reading → List Bound
short_list p readings = span_bounds readings ++ event_bounds 0 p.events ++ follow_bounds p.follows readings 0 p.clocks ++ flat_map message_bounds p.messages

-- every bound of this name is obeyed
abbrev pub ObeysNamed : ProblemLists → Times → Bound → Type 0
ObeysNamed p x b = (a : Constraint) → Declares p b a → Obeys x a

-- the first bound of a list that is not obeyed, with its weight and the difference x_to - x_from
pub record IsFirstBrokenOf (p : ProblemLists) (x : Times) (bounds : List Bound) (b : Bound) (weight difference : ℤ) : Type 0 where
  pub front : List Bound
  pub back : List Bound
  pub place : bounds ≡ front ++ b ∷ back
  pub obeyed : All (ObeysNamed p x) front
  pub constraint : Constraint
  pub declares : Declares p b constraint
  pub weight_is : constraint.weight ≡ weight
  pub difference_is : (x constraint.to -ℤ x constraint.from) ≡ difference
  pub broken : weight <ℤ difference

-- the first bound of the short list that is not obeyed
abbrev pub IsFirstBroken : ProblemLists → Times → Bound → ℤ → ℤ → Type 0
IsFirstBroken p x b weight difference = (readings : List Reading) × AreReadings p readings × IsFirstBrokenOf p x (short_list p readings) b weight difference
