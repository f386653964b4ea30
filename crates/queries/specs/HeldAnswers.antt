-- What an engine that holds the answer of a listed problem says of the problem.
use Rattle.std.specs.Prelude.{◌≡◌, ◌<◌, ℕ, [], List, length, map, All}
use Rattle.problem_model.specs.declared.items.Node.{Node}
use Rattle.problem_model.specs.declared.items.Bound.{Bound}
use Rattle.problem_model.specs.Problem.{ProblemLists, IsProblem}
use Rattle.problem_model.specs.Bounds.{Times}
use Rattle.problem_model.specs.Nodes.{Reading, AreReadings, nodes_of}
use Rattle.problem_model.specs.Executions.{at}
use Rattle.problem_model.specs.Solutions.{IsEarliestExecution}
use Rattle.problem.specs.Listing.{Listed, listing_of, listed_nodes}
use Rattle.cert.specs.declared.certificate.Cert.TheVariants.{Cycle, Run}
use Rattle.cert.specs.Listed.{listed_cycle, listed_run}
use Rattle.cert.specs.CertificateText.{certificate_text}
use Rattle.row_pool.specs.declared.cell.Pair.{Pair}
use Rattle.intervals.specs.Ends.{FitsPair}
use Rattle.intervals.specs.Executions.{IsPairOf}
use Rattle.sync_graph.specs.Graph.{GraphLists, IsGraph}
use Rattle.problem_graph.specs.Standing.{HasBounds}
use Rattle.problem_graph.specs.ListedStanding.{IsNodeBy, StandsForListed}
use Rattle.problem_graph.specs.HeldBounds.{HasShortList}
use Rattle.repair.specs.Pairs.{IsPairIn}
use Rattle.solver.specs.Solver.{SolverLists}
use Rattle.solver.specs.Solution.{IsSolutionBy}
use Rattle.queries.specs.Contradiction.{HasContradictionBy, weighed_steps}

-- ---- where no contradiction is held
-- the values of the listed nodes are an earliest execution
abbrev pub HoldEarliest : Type 0
HoldEarliest = (l : Listed) (p : ProblemLists) (readings : List Reading) (s : SolverLists) → AreReadings p readings → IsSolutionBy l p s → s.contradiction ≡ []
    → (x : Times) × (map (at s.earliest.values) (listed_nodes l) ≡ map x (nodes_of p readings)) × IsEarliestExecution p x

-- all real times with these values at the nodes are
abbrev pub HoldEarliestAlone : Type 0
HoldEarliestAlone = (l : Listed) (p : ProblemLists) (readings : List Reading) (s : SolverLists) (x : Times) → AreReadings p readings → IsSolutionBy l p s → s.contradiction ≡ []
    → map (at s.earliest.values) (listed_nodes l) ≡ map x (nodes_of p readings) → IsEarliestExecution p x

-- there is a value for each listed node, also where one is held
abbrev pub HoldValues : Type 0
HoldValues = (l : Listed) (p : ProblemLists) (readings : List Reading) (s : SolverLists) → AreReadings p readings → IsSolutionBy l p s
    → All (λ k. k < length s.earliest.values) (listed_nodes l)

-- the values as they are written are the certificate of an earliest execution
abbrev pub AreWrittenAsRun : Type 0
AreWrittenAsRun = (l : Listed) (p : ProblemLists) (readings : List Reading) (s : SolverLists) → AreReadings p readings → IsSolutionBy l p s → s.contradiction ≡ []
    → (x : Times) × IsEarliestExecution p x × (listed_run l (at s.earliest.values) ≡ certificate_text p (nodes_of p readings) (Run (map x (nodes_of p readings))))

-- greatest differences over the executions of the graph are those over the executions of the problem
abbrev pub ArePairs : Type 0
ArePairs = (l : Listed) (p : ProblemLists) (readings : List Reading) (s : SolverLists) (j k : ℕ) (m n : Node) (pair : Pair) → AreReadings p readings → IsSolutionBy l p s
    → s.contradiction ≡ [] → IsNodeBy l p readings j m → IsNodeBy l p readings k n → IsPairIn s.graph j k pair → IsPairOf p m n pair

-- and below 2^120 in absolute value
abbrev pub FitPairs : Type 0
FitPairs = (l : Listed) (p : ProblemLists) (s : SolverLists) (j k : ℕ) (pair : Pair) → IsSolutionBy l p s → s.contradiction ≡ []
    → j < length s.graph.nodes → k < length s.graph.nodes → IsPairIn s.graph j k pair → FitsPair pair

-- ---- where one is held
-- it is a contradiction of the problem
abbrev pub HoldContradiction : Type 0
HoldContradiction = (l : Listed) (p : ProblemLists) (readings : List Reading) (s : SolverLists) → AreReadings p readings → IsSolutionBy l p s → (s.contradiction ≡ [] → ⊥)
    → HasContradictionBy l p s.contradiction

-- and what is written of it is its certificate
abbrev pub IsWrittenAsCycle : Type 0
IsWrittenAsCycle = (l : Listed) (p : ProblemLists) (readings : List Reading) (s : SolverLists) → AreReadings p readings → IsSolutionBy l p s
    → (has : HasContradictionBy l p s.contradiction) → listed_cycle l (weighed_steps s.contradiction) ≡ certificate_text p (nodes_of p readings) (Cycle has.steps)

-- ---- graphs
-- a graph with the nodes of a problem in their order, and the bounds of the short list in any, stands for the problem as it
-- lists itself
abbrev pub StandByBounds : Type 0
StandByBounds = (p : ProblemLists) (readings : List Reading) (bounds : List Bound) (g : GraphLists) → IsProblem p → AreReadings p readings → IsGraph g
    → HasBounds p readings bounds g → HasShortList p readings bounds → StandsForListed (listing_of p) p readings g
