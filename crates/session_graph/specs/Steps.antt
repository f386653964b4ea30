-- How many steps an addition may take.
use Rattle.std.specs.Prelude.{◌≡◌, ℕ, ◌+◌, ◌*◌, ◌≤◌, ◌⊎◌, Bool, true, List, length, Contains}
use Rattle.sync_graph.specs.declared.arc.Arc.{Arc}
use Rattle.sync_graph.specs.Graph.{IsGraph, arc_at}
use Rattle.solver.specs.Solver.{SolverLists}
use Rattle.solver.specs.Current.{IsSolvedNow}
use Rattle.solver.specs.Costs.{MarksAll, withdrawing_steps}
use Rattle.roster.specs.Once.{IsOn}
use Rattle.session_graph.specs.Extensions.{LeadTo, steps_of_stages}

-- ---- the graph between
-- the graph has an execution, and what is held are its earliest execution and the rows of the kept nodes
pub record IsSolved (s : SolverLists) : Type 0 where
  pub graph : IsGraph s.graph
  pub now : IsSolvedNow s

-- the same nodes; of the arcs in force before just those that the addition leaves so; the same nodes are kept
pub record IsBetween (before after between : SolverLists) : Type 0 where
  pub solved : IsSolved between
  pub nodes : between.graph.nodes ≡ before.graph.nodes
  pub arcs : between.graph.arcs ≡ before.graph.arcs
  pub in_force : (k : ℕ) → IsOn between.graph k → IsOn before.graph k × IsOn after.graph k
  pub all : (k : ℕ) → IsOn before.graph k → IsOn after.graph k → IsOn between.graph k
  pub slots : between.kept.slots ≡ before.kept.slots
  pub source : between.kept.source ≡ before.kept.source

-- ---- the withdrawing part
-- every arc that was in force still is
abbrev pub AllStay : SolverLists → SolverLists → Type 0
AllStay before after = (k : ℕ) → IsOn before.graph k → IsOn after.graph k

-- these are the arcs that are withdrawn
pub record AreGone (before after : SolverLists) (removed : List Arc) : Type 0 where
  pub gone : (a : Arc) → Contains removed a → (k : ℕ) × IsOn before.graph k × (IsOn after.graph k → ⊥) × (arc_at before.graph.arcs k ≡ a)
  pub all : (k : ℕ) → IsOn before.graph k → (IsOn after.graph k → ⊥) → Contains removed (arc_at before.graph.arcs k)

-- the part is what such flags give: they mark each node that the withdrawal affects, by values and parents before; arcs are counted in the graph between
pub record IsSumOfMarked (before after between : SolverLists) (part : ℕ) : Type 0 where
  pub removed : List Arc
  pub marked : ℕ → Bool
  pub marks : ℕ → ℕ → Bool
  pub gone : AreGone before after removed
  pub all : MarksAll before between removed marked marks
  pub sum : part ≡ withdrawing_steps before between marked marks

-- none where all arcs stay, and else such a sum
abbrev pub IsWithdrawingPart : SolverLists → SolverLists → SolverLists → ℕ → Type 0
IsWithdrawingPart before after between part = (AllStay before after × (part ≡ 0)) ⊎ IsSumOfMarked before after between part

-- ---- the whole
-- from a state between, stages lead to the one after, whose execution obeys the arcs of each, so that each has one; at most eight arcs come
-- for each new event; and it took no more steps than any withdrawing part and what the arcs of the stages may take
pub record IsAddedInFewSteps (events : ℕ) (before after : SolverLists) (first last : ℕ) : Type 0 where
  pub start : SolverLists
  pub is_between : IsBetween before after start
  pub stages : List SolverLists
  pub lead : LeadTo start stages after
  pub arcs : length after.graph.arcs ≤ length before.graph.arcs + 8 * events
  pub few : (between : SolverLists) (part : ℕ) → IsBetween before after between → IsWithdrawingPart before after between part → last ≤ first + part + steps_of_stages start stages

-- so it is where an execution exists before and after, and the source's slot does not come
abbrev pub TakesFewToAdd : ℕ → SolverLists → SolverLists → ℕ → ℕ → Type 0
TakesFewToAdd events before after first last = before.earliest.is_solved ≡ true → after.earliest.is_solved ≡ true → after.kept.source ≡ before.kept.source
    → IsAddedInFewSteps events before after first last
