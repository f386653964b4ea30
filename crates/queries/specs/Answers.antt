-- What is answered, for every problem of which the engine holds the answer.
use Rattle.std.specs.Prelude.{ℕ, List}
use Rattle.problem_model.specs.Problem.{ProblemLists}
use Rattle.problem.specs.Listing.{Listed}
use Rattle.problem_graph.specs.ListedStanding.{IsEventAt}
use Rattle.solver.specs.Solver.{SolverLists}
use Rattle.solver.specs.Solution.{IsSolutionBy}
use Rattle.queries.specs.Asking.{IsSourceReading}
use Rattle.queries.specs.Clocks.{KeepsTime}
use Rattle.queries.specs.Replies.{IsTimeLine, Replies}

-- there is a text that says so of the two events at these nodes, or that there is a contradiction, and this becomes of it
abbrev pub RepliesFor : Listed → SolverLists → ℕ → ℕ → (ProblemLists → ℕ → ℕ → List ℕ → Type 0) → (List ℕ → Type 0) → Type 0
RepliesFor l s first second Says Becomes = (p : ProblemLists) (i j : ℕ) → IsSolutionBy l p s → IsEventAt l i first → IsEventAt l j second
    → (text : List ℕ) × Replies p (Says p i j) text × Becomes text

-- the same of the time of the event at a node, by the clock of the source's reading, which has this stamp
abbrev pub RepliesWithTime : Listed → SolverLists → ℕ → ℕ → (List ℕ → Type 0) → Type 0
RepliesWithTime l s stamp event Becomes = (p : ProblemLists) (clock place : ℕ) → IsSolutionBy l p s → KeepsTime p clock
    → IsSourceReading l s clock stamp → IsEventAt l place event → (text : List ℕ) × Replies p (IsTimeLine p clock place) text × Becomes text
