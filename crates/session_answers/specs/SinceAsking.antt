-- What an engine has at hand that is asked how long events were after one event, and what it answers.
use Rattle.std.specs.Prelude.{◌≡◌, ℕ, List, [], length, slice_get, Some, All}
use Rattle.problem_model.specs.Problem.{ProblemLists}
use Rattle.problem.specs.Listing.{Listed}
use Rattle.problem_graph.specs.ListedStanding.{IsEventAt}
use Rattle.intervals.specs.declared.ends.Ends.{Ends}
use Rattle.solver.specs.Solver.{SolverLists}
use Rattle.solver.specs.Solution.{IsSolutionBy}
use Rattle.replies.specs.AllTimes.{AreEndsSince}
use Rattle.session_answers.specs.TimesAsking.{IsAskedSince}

-- an execution of a listed problem is held, and all these nodes are those of listed events
pub record AsksSince (s : SolverLists) (first : ℕ) (nodes : List ℕ) : Type 0 where
  pub listed : Listed
  pub asked : IsAskedSince listed s first
  pub events : All (λ (node : ℕ). (place : ℕ) × IsEventAt listed place node) nodes

-- for each listed problem whose execution is held, each node has the least and the greatest real time from the first event to its own
pub record AreSinceAt (s : SolverLists) (first : ℕ) (nodes : List ℕ) (all : List Ends) : Type 0 where
  pub each : length all ≡ length nodes
  pub are : (l : Listed) (p : ProblemLists) (start : ℕ) → IsSolutionBy l p s → IsEventAt l start first
      → (k node place : ℕ) (ends : Ends) → slice_get nodes k ≡ Some node → IsEventAt l place node → slice_get all k ≡ Some ends → AreEndsSince p start place ends
