-- A graph that grows event by event.
use Rattle.std.specs.Prelude.{◌≡◌, ℕ, Bool, List, [], ◌⊎◌, Contains}
use Rattle.problem_model.specs.declared.items.Node.{Node}
use Rattle.problem_model.specs.declared.items.Bound.{Bound}
use Rattle.problem_model.specs.Problem.{ProblemLists}
use Rattle.sync_graph.specs.declared.arc.Arc.{Arc}
use Rattle.sync_graph.specs.Graph.{GraphLists}
use Rattle.sync_graph.specs.InForce.{IsInForce}
use Rattle.problem_graph.specs.BoundArcs.{IsBoundAmong}
use Rattle.problem_graph.specs.Standing.{HasNode}
use Rattle.roster.specs.Entered.{IsEnteredNode, IsDue}

-- the arc is the bound of its name among the nodes
abbrev pub IsBoundOf : ProblemLists → GraphLists → Arc → Type 0
IsBoundOf p g a = IsBoundAmong p g.nodes a

-- an arc in force has this name
abbrev pub HasBound : GraphLists → Bound → Type 0
HasBound g b = (a : Arc) × IsInForce g a × (a.name ≡ b)

-- the nodes are the events that have entered and their readings, each arc in force is a bound of the problem, and what is due among
-- these events is in force but for what is left
pub record IsGrowing (p : ProblemLists) (entered : ℕ → Bool) (left : List Bound) (g : GraphLists) : Type 0 where
  pub nodes : (n : Node) → HasNode g n → IsEnteredNode p entered n
  pub every_node : (n : Node) → IsEnteredNode p entered n → HasNode g n
  pub each : (a : Arc) → IsInForce g a → IsBoundOf p g a
  pub every : (b : Bound) → IsDue p entered b → Contains left b ⊎ HasBound g b

-- the same, with nothing left: the graph has grown to these events
abbrev pub IsGrownTo : ProblemLists → (ℕ → Bool) → GraphLists → Type 0
IsGrownTo p entered g = IsGrowing p entered [] g
