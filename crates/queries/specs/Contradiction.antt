-- What solving a problem answers.
use Rattle.std.specs.Prelude.{◌≤◌, List, length, map, All}
use Rattle.problem_model.specs.Problem.{ProblemLists}
use Rattle.problem_model.specs.Bounds.{Times, IsExecution}
use Rattle.problem_model.specs.Nodes.{Reading, AreReadings, nodes_of}
use Rattle.problem_model.specs.Solutions.{WeighedBound, IsContradictionOf}
use Rattle.problem.specs.Listing.{Listed}
use Rattle.cert.specs.Listed.{HasNames}
use Rattle.cert.specs.Shows.{weighed_bounds}
use Rattle.cert.specs.declared.chain.Step.{Step}
use Rattle.attain.specs.ListedProblem.{AreCarried}
use Rattle.sync_graph.specs.declared.arc.Arc.{Arc}

-- the names and the weights of arcs
abbrev pub weighed_steps : List Arc → List WeighedBound
weighed_steps arcs = map (λ (a : Arc). (a.name, a.weight)) arcs

-- the listing names the arcs, and with events by their places they are a contradiction of the problem, no longer than it
-- has nodes; so it has no execution
pub record HasContradictionBy (l : Listed) (p : ProblemLists) (arcs : List Arc) : Type 0 where
  pub named : All (λ (a : Arc). HasNames l a.name) arcs
  pub steps : List Step
  pub carried : AreCarried l (weighed_steps arcs) steps
  pub contradiction : IsContradictionOf p (weighed_bounds steps)
  pub short : (readings : List Reading) → AreReadings p readings → length steps ≤ length (nodes_of p readings)
  pub no_execution : (x : Times) → IsExecution p x → ⊥
