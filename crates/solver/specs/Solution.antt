-- What solving a problem answers.
use Rattle.std.specs.Prelude.{List}
use Rattle.problem_model.specs.Problem.{ProblemLists}
use Rattle.problem_model.specs.Nodes.{Reading, AreReadings}
use Rattle.problem.specs.Listing.{Listed, listing_of}
use Rattle.problem_graph.specs.ListedStanding.{StandsForListed}
use Rattle.solver.specs.Solver.{SolverLists}
use Rattle.solver.specs.Current.{IsCurrent}

-- what is held is of the present graph, and the graph stands for the problem that the listing lists
pub record IsSolutionBy (l : Listed) (p : ProblemLists) (s : SolverLists) : Type 0 where
  pub current : IsCurrent s
  pub stands : (readings : List Reading) → AreReadings p readings → StandsForListed l p readings s.graph

-- the same of a problem in its own order
abbrev pub IsSolution : ProblemLists → SolverLists → Type 0
IsSolution p s = IsSolutionBy (listing_of p) p s
