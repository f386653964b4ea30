-- What an engine that is asked has at hand.
use Rattle.std.specs.Prelude.{◌≡◌, ◌⊎◌, ℕ, List, [], Some, None, slice_get}
use Rattle.problem_model.specs.Problem.{ProblemLists}
use Rattle.problem.specs.Listing.{Listed}
use Rattle.sync_graph.specs.declared.arc.Arc.{Arc}
use Rattle.repair.specs.declared.slot.Slot.{Slot}
use Rattle.repair.specs.Slots.{slot_of}
use Rattle.solver.specs.Solver.{SolverLists}
use Rattle.solver.specs.Solution.{IsSolutionBy}
use Rattle.problem_graph.specs.ListedStanding.{IsEventAt}
use Rattle.attain.specs.Ends.{AreEventNodes}

-- the rows of the node are kept
abbrev pub HasKeptRows : SolverLists → ℕ → Type 0
HasKeptRows s node = slot_of s.kept node ≡ None → ⊥

-- a contradiction is held
abbrev pub HoldsContradiction : SolverLists → Type 0
HoldsContradiction s = s.contradiction ≡ [] → ⊥

-- what there is to say of the node and others needs no row: a contradiction is held, or the node is kept
abbrev pub IsAtHand : SolverLists → ℕ → Type 0
IsAtHand s node = HoldsContradiction s ⊎ HasKeptRows s node

-- so it is of one of two nodes
abbrev pub IsPairAtHand : SolverLists → ℕ → ℕ → Type 0
IsPairAtHand s first second = IsAtHand s first ⊎ IsAtHand s second

-- an engine that holds the answer of the listed problem holds these arcs as a contradiction
abbrev pub IsHeldContradiction : Listed → ProblemLists → List Arc → Type 0
IsHeldContradiction l p cycle = (s : SolverLists) × IsSolutionBy l p s × HoldsContradiction s × (s.contradiction ≡ cycle)

-- the listed reading of this stamp on this clock is the node of the graph with this number
abbrev pub IsListedReading : Listed → ℕ → ℕ → ℕ → Type 0
IsListedReading l clock stamp number = (place : ℕ) × (slice_get l.readings place ≡ Some (clock, stamp, number))

-- the source's rows are those of this reading
abbrev pub IsSourceReading : Listed → SolverLists → ℕ → ℕ → Type 0
IsSourceReading l s clock stamp = (slot : Slot) × (s.kept.source ≡ Some slot) × IsListedReading l clock stamp slot.node

-- the engine holds an execution of a listed problem, and both nodes are those of listed events
pub record IsAskedOf (l : Listed) (s : SolverLists) (first second : ℕ) : Type 0 where
  pub problem : ProblemLists
  pub solution : IsSolutionBy l problem s
  pub none : s.contradiction ≡ []
  pub events : AreEventNodes l first second

-- it holds one, the node is that of a listed event, and the source's reading has this stamp
pub record IsAskedTime (l : Listed) (s : SolverLists) (stamp event : ℕ) : Type 0 where
  pub problem : ProblemLists
  pub solution : IsSolutionBy l problem s
  pub none : s.contradiction ≡ []
  pub clock : ℕ
  pub source : IsSourceReading l s clock stamp
  pub place : ℕ
  pub at : IsEventAt l place event
