-- Bounds that are in force once.
use Rattle.std.specs.Prelude.{◌≡◌, ◌≢◌, ℕ, true, false, ◌⊎◌, List, slice_index_or, All, AllPairs, Contains}
use Rattle.problem_model.specs.declared.items.Message.{Message}
use Rattle.problem_model.specs.declared.items.Bound.{Bound}
use Rattle.sync_graph.specs.Graph.{GraphLists, arc_at}
use Rattle.roster.specs.Growing.{HasBound}
use Rattle.roster.specs.Withdrawing.{IsDelayOf}

-- this arc is in force
abbrev pub IsOn : GraphLists → ℕ → Type 0
IsOn g k = slice_index_or g.in_force k false ≡ true

-- no two arcs in force have one name, none has that of a bound that is left, and no two of these are one
pub record HasEachOnce (left : List Bound) (g : GraphLists) : Type 0 where
  pub once : (j k : ℕ) → IsOn g j → IsOn g k → (arc_at g.arcs j).name ≡ (arc_at g.arcs k).name → j ≡ k
  pub left_out : (b : Bound) → Contains left b → HasBound g b → ⊥
  pub left_differ : AllPairs (λ a b. a ≢ b) left

-- an event is an end of each of the messages, and no two have the same ends
pub record HaveOwnEnds (v : ℕ) (messages : List Message) : Type 0 where
  pub own : All (λ m. (m.send ≡ v) ⊎ (m.receive ≡ v)) messages
  pub differ : AllPairs (λ a b. (a.send ≡ b.send) → (a.receive ≡ b.receive) → ⊥) messages

-- the arcs of these numbers are taken out of force, and they are those in force of these messages
pub record TakesOut (messages : List Message) (numbers : List ℕ) (g h : GraphLists) : Type 0 where
  pub nodes : h.nodes ≡ g.nodes
  pub arcs : h.arcs ≡ g.arcs
  pub on : (k : ℕ) → IsOn h k → IsOn g k
  pub off : (k : ℕ) → IsOn h k → Contains numbers k → ⊥
  pub others : (k : ℕ) → IsOn g k → Contains numbers k ⊎ IsOn h k
  pub of_messages : (k : ℕ) → Contains numbers k → IsDelayOf messages (arc_at g.arcs k).name
  pub all : (b : Bound) → IsDelayOf messages b → HasBound g b → (k : ℕ) × Contains numbers k × IsOn g k × ((arc_at g.arcs k).name ≡ b)
