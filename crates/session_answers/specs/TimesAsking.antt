-- What an engine that is asked for the times of all events has at hand.
use Rattle.std.specs.Prelude.{◌≡◌, ℕ, List, []}
use Rattle.problem_model.specs.Problem.{ProblemLists}
use Rattle.problem.specs.Listing.{Listed}
use Rattle.problem_graph.specs.ListedStanding.{IsEventAt}
use Rattle.solver.specs.Solver.{SolverLists}
use Rattle.solver.specs.Solution.{IsSolutionBy}
use Rattle.queries.specs.Asking.{IsSourceReading}
use Rattle.queries.specs.Clocks.{KeepsTime}
use Rattle.queries.specs.Replies.{Replies}
use Rattle.replies.specs.AllTimes.{AreEndsSince, AreTimesBy, IsTimesText}

-- an execution of a listed problem is held, and the node is that of a listed event
pub record IsAskedSince (l : Listed) (s : SolverLists) (first : ℕ) : Type 0 where
  pub problem : ProblemLists
  pub solution : IsSolutionBy l problem s
  pub none : s.contradiction ≡ []
  pub place : ℕ
  pub at : IsEventAt l place first

-- there is a text that says the real times from the event at a node to each, or that there is a contradiction, and this becomes of it
abbrev pub RepliesSince : Listed → SolverLists → ℕ → (List ℕ → Type 0) → Type 0
RepliesSince l s first Becomes = (p : ProblemLists) (place : ℕ) → IsSolutionBy l p s → IsEventAt l place first
    → (text : List ℕ) × Replies p (IsTimesText p (AreEndsSince p place)) text × Becomes text

-- the same of the times by the clock of the source's reading, which has this stamp
abbrev pub RepliesWithTimes : Listed → SolverLists → ℕ → (List ℕ → Type 0) → Type 0
RepliesWithTimes l s stamp Becomes = (p : ProblemLists) (clock : ℕ) → IsSolutionBy l p s → KeepsTime p clock
    → IsSourceReading l s clock stamp → (text : List ℕ) × Replies p (IsTimesText p (AreTimesBy p clock)) text × Becomes text
