-- The nodes of a problem in their order, and the real times as a list in that order.
use Rattle.std.specs.Prelude.{◌≡◌, ℕ, ◌+◌, ◌<◌, ◌^◌, ◌⊎◌, List, [], ◌∷◌, ◌++◌, map, AllPairs, Contains, ℤ}
use Rattle.problem_model.specs.declared.items.Node.{Node}
use Rattle.problem_model.specs.declared.items.Node.TheVariants as nodes
use Rattle.problem_model.specs.declared.items.Event.{Event}
use Rattle.problem_model.specs.Problem.{ProblemLists}
use Rattle.problem_model.specs.Bounds.{IsReading, Times}

-- the place of a clock, and a stamp
abbrev pub Reading : Type 0
Reading = ℕ × ℕ

-- by the clock's place, then by stamp
abbrev pub IsEarlierReading : Reading → Reading → Type 0
IsEarlierReading a b = (a.0 < b.0) ⊎ ((a.0 ≡ b.0) × (a.1 < b.1))

-- the readings of a problem, each once, in their order
pub record AreReadings (p : ProblemLists) (readings : List Reading) : Type 0 where
  pub each : (clock stamp : ℕ) → Contains readings (clock, stamp) → IsReading p clock stamp
  pub every : (clock stamp : ℕ) → IsReading p clock stamp → Contains readings (clock, stamp)
  pub rising : AllPairs IsEarlierReading readings

-- the events by their numbers, from k on
abbrev pub event_nodes : ℕ → List Event → List Node
event_nodes k [] = []
event_nodes k (e ∷ events) = nodes.Event k ∷ event_nodes (k + 1) events

-- the readings as nodes
abbrev pub reading_nodes : List Reading → List Node
reading_nodes readings = map (λ r. nodes.Reading r.0 r.1) readings

-- the events, then the readings
abbrev pub nodes_of : ProblemLists → List Reading → List Node
nodes_of p readings = event_nodes 0 p.events ++ reading_nodes readings

-- the list of the real times in the order of the nodes
abbrev pub Lists : ProblemLists → Times → List ℤ → Type 0
Lists p x xs = (readings : List Reading) × AreReadings p readings × (xs ≡ map x (nodes_of p readings))
