-- Which event comes first in the merge, by the numbers and the values of a roster's events.
use Rattle.std.specs.Prelude.{◌≡◌, ◌⊎◌, ◌<◌, ℕ, List, length, Option}
use Rattle.problem_model.specs.Executions.{at}
use Rattle.report.specs.declared.merge.MergeKey.{MergeKey}
use Rattle.report.specs.Merging.{ComesFirst}
use Rattle.traces.specs.Seen.{Seen}
use Rattle.traces.specs.Messages.{problem_of_seen}
use Rattle.solver.specs.Solver.{SolverLists}
use Rattle.solver.specs.Solution.{IsSolutionBy}
use Rattle.roster.specs.declared.came.Came.{Came}
use Rattle.roster.specs.Roster.{RosterLists, HoldsEvents, event_at, listed}
use Rattle.session_answers.specs.Ready.{KeepsSource}

-- what an event is merged by
abbrev pub key_of_came : SolverLists → Came → MergeKey
key_of_came s e = record { value = at s.earliest.values e.node; place = e.label; n = e.number }

-- the event of the one number comes before that of the other, or it is the same event
abbrev pub IsNoLater : SolverLists → List Came → ℕ → ℕ → Type 0
IsNoLater s came v w = (w ≡ v) ⊎ ComesFirst (key_of_came s (event_at came v)) (key_of_came s (event_at came w))

-- this one of two comes first
abbrev pub IsFirstOfTwo : SolverLists → List Came → ℕ → ℕ → ℕ → Type 0
IsFirstOfTwo s came a b result = ((result ≡ a) × IsNoLater s came a b) ⊎ ((result ≡ b) × IsNoLater s came b a)

-- this one comes before all others below a number
pub record IsFirstBefore (s : SolverLists) (came : List Came) (first n : ℕ) : Type 0 where
  pub inside : first < length came
  pub each : (v : ℕ) → v < n → IsNoLater s came first v

-- a roster and a solver hold these events and the answer of their problem, with the source's reading of this stamp
pub record IsStartOf (r : RosterLists) (s : SolverLists) (stamp : Option ℕ) (seen : List (List Seen)) : Type 0 where
  pub holds : HoldsEvents r seen
  pub solution : IsSolutionBy (listed r) (problem_of_seen r.declaration seen) s
  pub source : KeepsSource (listed r) (problem_of_seen r.declaration seen) r.declaration.source stamp s
