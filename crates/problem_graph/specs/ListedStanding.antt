-- A graph that stands for the problem that a listing lists.
use Rattle.std.specs.Prelude.{◌≡◌, ◌≢◌, ℕ, ◌<◌, List, length, slice_get, Some, All, AllPairs}
use Rattle.problem_model.specs.declared.items.Node.{Node}
use Rattle.problem_model.specs.declared.items.Bound.{Bound}
use Rattle.problem_model.specs.Problem.{ProblemLists, IsProblem}
use Rattle.problem_model.specs.Bounds.{Constraint, Declares}
use Rattle.problem_model.specs.Nodes.{Reading, AreReadings}
use Rattle.problem_model.specs.ShortList.{short_list}
use Rattle.problem_model.specs.ProblemArcs.{IsNodeAt}
use Rattle.sync_graph.specs.declared.arc.Arc.{Arc}
use Rattle.sync_graph.specs.Graph.{GraphLists}
use Rattle.problem.specs.Listing.{Listed, listed_nodes}
use Rattle.sync_graph.specs.InForce.{IsInForce}
use Rattle.problem_graph.specs.ListedProblem.{IsListedBy, IsCarried}

-- the node of the graph with this number is this node of the problem: both have the same place
abbrev pub IsNodeBy : Listed → ProblemLists → List Reading → ℕ → Node → Type 0
IsNodeBy l p readings number node = (place : ℕ) × (slice_get (listed_nodes l) place ≡ Some number) × IsNodeAt p readings place node

-- the arc stands for this bound of the problem: it joins the same nodes, weighs the same, and carries its name
pub record IsBoundBy (l : Listed) (p : ProblemLists) (readings : List Reading) (b : Bound) (a : Arc) : Type 0 where
  pub constraint : Constraint
  pub declares : Declares p b constraint
  pub named : IsCarried l a.name b
  pub tail : IsNodeBy l p readings a.from constraint.from
  pub head : IsNodeBy l p readings a.to constraint.to
  pub weighs : a.weight ≡ constraint.weight

-- the nodes of the graph are those of the listed problem, each once; each arc in force is a declared bound, and each bound
-- of the short list is an arc in force
pub record StandsForListed (l : Listed) (p : ProblemLists) (readings : List Reading) (g : GraphLists) : Type 0 where
  pub lawful : IsProblem p
  pub are_readings : AreReadings p readings
  pub listed : IsListedBy l p readings
  pub one_each : length (listed_nodes l) ≡ length g.nodes
  pub nodes : All (λ k. k < length g.nodes) (listed_nodes l)
  pub nodes_differ : AllPairs (λ j k. j ≢ k) (listed_nodes l)
  pub each : (a : Arc) → IsInForce g a → (b : Bound) × IsBoundBy l p readings b a
  pub every : All (λ b. (a : Arc) × IsInForce g a × IsBoundBy l p readings b a) (short_list p readings)

-- the event at this place of the problem is the node of the graph with this number
abbrev pub IsEventAt : Listed → ℕ → ℕ → Type 0
IsEventAt l place number = (event : ℕ) × (slice_get l.events place ≡ Some (event, number))
